use Rattle.std.proofs.Common.{◌≡◌, subst}
use Rattle.mp_tree.specs.Document.{Document, IsDocument}
use Rattle.mp_tree.specs.Text.{text as compact}
use Rattle.mp_tree.specs.View.{document}
use Rattle.mp_tree.proofs.Facts.{IsDocument-document}
use Rattle.mp_replica.specs.LogTexts.{IsNoLogText}
use Rattle.mp_replica.specs.PatchLog.{Shows, start_of, stored_of}
use Rattle.mp_replica.proofs.Written.{written}
use Rattle.mp_replica.proofs.patch_log.PatchLog.document_text.Goals as goal

pub returns-in-Some-clause-shows : goal.returns-in-Some-clause-shows
returns-in-Some-clause-shows c =
    let log = c.args.self.now in
    let shown = c.in-Some.shown.now in
    let shows = subst (λ l. Shows (start_of l) (stored_of l) (document shown)) c.keep_shown.ensures.unchanged c.in-Some.ensures in
    written c.args.limit (compact (document shown)) (λ bytes. (d : Document) × IsDocument d × Shows (start_of log) (stored_of log) d × (bytes ≡ compact d)) (λ fault. IsNoLogText c.args.limit fault log) c.text_within.result
    c.text_within.ensures (λ bytes is. (document shown, IsDocument-document shown, shows, is))
    (λ long. record { shown = document shown; is_document = IsDocument-document shown; shows = shows; too_long = long }) tt
