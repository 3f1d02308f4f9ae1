use Rattle.std.proofs.Common.{◌≡◌, ℕ, List, None, Option, MatchOption, sym, subst}
use Rattle.mp_tree.specs.Text.{text as compact}
use Rattle.mp_tree.specs.View.{document}
use Rattle.mp_tree.specs.declared.doc.Doc.{Doc}
use Rattle.mp_replica.specs.Faults.{IsNotJoined, HasLongText}
use Rattle.mp_texts.specs.Answers.{IsJoinText}
use Rattle.mp_replica.specs.Texts.{FollowsTexts}
use Rattle.mp_replica.proofs.TextRuns.{join_text_of_replica}
use Rattle.mp_replica.proofs.Written.{written, written_so}
use Rattle.mp_replica.proofs.replica.Replica.joined_text.Goals as goal

pub returns-in-Some-clause-joined : goal.returns-in-Some-clause-joined
returns-in-Some-clause-joined c =
    let r = c.args.self.now in
    written c.args.limit (compact (document c.in-Some.joined.now)) (λ bytes. (r.pending ≡ None) × MatchOption r.joined ⊥ (λ j. bytes ≡ compact (document j))) (λ fault. IsNotJoined c.args.limit fault r) c.text_within.result
    c.text_within.ensures
    (λ bytes is. (c.in-Some.ensures.0, subst (λ (o : Option Doc). MatchOption o ⊥ (λ j. bytes ≡ compact (document j))) (sym c.in-Some.ensures.1) is))
    (λ long. (c.in-Some.ensures.0, subst (λ (o : Option Doc). MatchOption o ⊥ (λ j. HasLongText c.args.limit (document j))) (sym c.in-Some.ensures.1) long)) tt

pub returns-in-Some-clause-join : goal.returns-in-Some-clause-join
returns-in-Some-clause-join c =
    written_so c.args.limit (compact (document c.in-Some.joined.now)) (λ bytes. (start : List ℕ) (texts : List (List ℕ)) → FollowsTexts start texts c.args.self.now → IsJoinText texts bytes) c.text_within.result c.text_within.ensures
    (λ bytes is start texts follows. join_text_of_replica c.text_laws.ensures start texts c.args.self.now c.in-Some.joined.now bytes c.in-Some.ensures.0 c.in-Some.ensures.1 is follows)
