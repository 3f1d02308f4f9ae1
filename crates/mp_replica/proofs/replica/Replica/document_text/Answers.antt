use Rattle.std.proofs.Common.{◌≡◌, ℕ, List, None, ap, ◌∙◌, subst}
use Rattle.mp_tree.specs.Text.{text as compact}
use Rattle.mp_tree.specs.View.{document}
use Rattle.mp_texts.specs.Answers.{IsReplayText}
use Rattle.mp_replica.specs.Faults.{HasLongText, IsUnshown}
use Rattle.mp_replica.specs.Texts.{FollowsTexts}
use Rattle.mp_replica.proofs.TextRuns.{replay_text}
use Rattle.mp_replica.proofs.Written.{written, written_so}
use Rattle.mp_replica.proofs.replica.Replica.document_text.Goals as goal

pub returns-in-Some-clause-shown : goal.returns-in-Some-clause-shown
returns-in-Some-clause-shown c =
    let r = c.args.self.now in
    written c.args.limit (compact (document c.in-Some.shown.now)) (λ bytes. (r.pending ≡ None) × (bytes ≡ compact (document r.shown))) (λ fault. IsUnshown c.args.limit fault r) c.text_within.result c.text_within.ensures
    (λ bytes is. (c.in-Some.ensures.0, is ∙ ap (λ d. compact (document d)) c.in-Some.ensures.1))
    (λ long. (c.in-Some.ensures.0, subst (λ d. HasLongText c.args.limit (document d)) c.in-Some.ensures.1 long)) tt

pub returns-in-Some-clause-replay : goal.returns-in-Some-clause-replay
returns-in-Some-clause-replay c =
    let r = c.args.self.now in
    written_so c.args.limit (compact (document c.in-Some.shown.now)) (λ bytes. (start : List ℕ) (texts : List (List ℕ)) → FollowsTexts start texts r → IsReplayText start texts bytes) c.text_within.result c.text_within.ensures
    (λ bytes is start texts follows. replay_text c.text_laws.ensures start texts r bytes c.in-Some.ensures.0 (is ∙ ap (λ d. compact (document d)) c.in-Some.ensures.1) follows)
