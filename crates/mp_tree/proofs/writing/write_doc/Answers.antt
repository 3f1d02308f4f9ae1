use Rattle.std.proofs.Common.{ap, ◌∙◌}
use Rattle.std.proofs.lemmas.Result.{IfOk-weaker}
use Rattle.mp_tree.specs.Text.{read}
use Rattle.mp_tree.specs.View.{document}
use Rattle.mp_tree.proofs.Documents.Meaning.{IsReadable-document}
use Rattle.mp_tree.proofs.Texts.RoundTrip.{read-text}
use Rattle.mp_tree.proofs.writing.write_doc.Goals as goal

pub returns : goal.returns
returns c =
    let d = c.args.doc.now in
    record { text = c.written.ensures; reads_back = IfOk-weaker c.written.result _ _ (λ s is fits. ap read is ∙ read-text (document d) (IsReadable-document d fits)) c.written.ensures }
