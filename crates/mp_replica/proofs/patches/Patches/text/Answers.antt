use Rattle.std.proofs.Common.{◌≡◌, ℕ, List, None, Option, MatchOption, inl, inr, sym, subst}
use Rattle.mp_tree.specs.Text.{text as compact}
use Rattle.mp_tree.specs.View.{document}
use Rattle.mp_tree.specs.declared.doc.Doc.{Doc}
use Rattle.mp_texts.specs.Answers.{IsJoinText}
use Rattle.mp_replica.specs.Faults.{HasLongText, IsNoJoin, IsNoJoinText}
use Rattle.mp_replica.specs.Texts.{HasTakenTexts}
use Rattle.mp_replica.specs.declared.fault.LiveFault.TheVariants.{Conflict, NoPatches}
use Rattle.mp_replica.proofs.Growing.{none_if_not, none_mapped, some_mapped}
use Rattle.mp_replica.proofs.TextRuns.{join_text_of_patches, no_join_text}
use Rattle.mp_replica.proofs.Written.{written}
use Rattle.mp_replica.proofs.patches.Patches.text.Goals as goal

pub returns-then-is_some-clause-join : goal.returns-then-is_some-clause-join
returns-then-is_some-clause-join c texts has = no_join_text c.text_laws.ensures c.args.limit Conflict texts c.args.self.now (some_mapped _ c.places.result c.args.self.now.places c.if-is_some.ensures c.places.ensures) has

pub returns-in-Some-clause-joined : goal.returns-in-Some-clause-joined
returns-in-Some-clause-joined c =
    let r = c.args.self.now in
    let free = none_mapped _ c.places.result r.places c.if-is_some.ensures c.places.ensures in
    written c.args.limit (compact (document c.in-Some.joined.now)) (λ bytes. (r.places ≡ None) × (r.pending ≡ None) × MatchOption r.joined ⊥ (λ j. bytes ≡ compact (document j))) (λ fault. IsNoJoin c.args.limit fault r)
    c.text_within.result c.text_within.ensures
    (λ bytes is. (free, c.in-Some.ensures.0, subst (λ (o : Option Doc). MatchOption o ⊥ (λ j. bytes ≡ compact (document j))) (sym c.in-Some.ensures.1) is))
    (λ long. (free, c.in-Some.ensures.0, subst (λ (o : Option Doc). MatchOption o ⊥ (λ j. HasLongText c.args.limit (document j))) (sym c.in-Some.ensures.1) long)) tt

pub returns-in-Some-clause-join : goal.returns-in-Some-clause-join
returns-in-Some-clause-join c =
    let r = c.args.self.now in
    let free = none_mapped _ c.places.result r.places c.if-is_some.ensures c.places.ensures in
    written c.args.limit (compact (document c.in-Some.joined.now)) (λ bytes. (texts : List (List ℕ)) → HasTakenTexts r texts → IsJoinText texts bytes) (λ fault. (texts : List (List ℕ)) → HasTakenTexts r texts → IsNoJoinText fault texts)
    c.text_within.result c.text_within.ensures
    (λ bytes is texts has. join_text_of_patches c.text_laws.ensures texts r c.in-Some.joined.now bytes free c.in-Some.ensures.0 c.in-Some.ensures.1 is has)
    (λ long texts has. tt) (λ texts has. tt)

pub returns-in-None-clause-join : goal.returns-in-None-clause-join
returns-in-None-clause-join c texts has =
    let free = none_mapped _ c.places.result c.args.self.now.places c.if-is_some.ensures c.places.ensures in
    let settled = none_if_not c.args.self.now.pending (λ some. let never = c.if-is_pending.ensures.1 some in cc) in
    let no_join : c.args.self.now.joined ≡ None = elim c.in-None.ensures [ inl pending ↦ absurd (pending settled) | inr none ↦ none ] in
    no_join_text c.text_laws.ensures c.args.limit NoPatches texts c.args.self.now (free, settled, no_join) has
