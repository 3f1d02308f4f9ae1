use Rattle.std.proofs.Common.{◌≡◌, ◌≢◌, ◌∙◌, ◌↔◌, ℕ, List, [], None, option_map, ap, inl, inr, string_bytes, sym}
use Rattle.std.specs.List.{All}
use Rattle.mp_tree.specs.Document.{Document, IsReadable}
use Rattle.mp_tree.specs.Text.{text as compact}
use Rattle.mp_tree.specs.View.{document}
use Rattle.mp_replica.specs.Held.{held_places}
use Rattle.mp_replica.specs.Kept.{IsKept}
use Rattle.mp_replica.specs.Taking.{HasTaken}
use Rattle.mp_replica.proofs.Growing.{none_if_not, none_unless}
use Rattle.mp_replica.proofs.Keeping.{marks_of}
use Rattle.mp_replica.proofs.TextRuns.{kept_join}
use Rattle.mp_replica.proofs.Written.{nothing_taken, some_conflict, some_join, some_text, written_so}
use Rattle.mp_replica.proofs.patches.Patches.kept.Goals as goal

pub returns-in-Some-clause-empty : goal.returns-in-Some-clause-empty
returns-in-Some-clause-empty c =
    let r = c.args.self.now in
    let held = held_places c.in-Some.places.now in
    let there = sym c.places.ensures ∙ ap (option_map (λ f. held_places f.now)) c.in-Some.is in
    let some : (bytes : List ℕ) → bytes ≡ string_bytes c.in_ok-text.text → bytes ≢ [] = (λ bytes is empty. let never = sym (marks_of held.more _) ∙ sym c.in_ok-text.ensures ∙ sym is ∙ empty in cc) in
    written_so c.args.limit (string_bytes c.in_ok-text.text) (λ bytes. (taken : List Document) → HasTaken r taken → (bytes ≡ []) ↔ (taken ≡ [])) c.unless_longer.result c.unless_longer.ensures
    (λ bytes is taken has. ((λ empty. absurd (some bytes is empty)), (λ none. absurd (some_conflict r taken held there has none))))

pub returns-in-Some-joined-clause-empty : goal.returns-in-Some-joined-clause-empty
returns-in-Some-joined-clause-empty c =
    let r = c.args.self.now in
    let free = none_unless _ c.places.result r.places c.in_default.not-Some c.places.ensures in
    let j = c.in-Some-joined.joined.now in
    written_so c.args.limit (compact (document j)) (λ bytes. (taken : List Document) → HasTaken r taken → (bytes ≡ []) ↔ (taken ≡ [])) c.text_within.result c.text_within.ensures
    (λ bytes is taken has. (
      (λ empty. absurd (some_text c.text_laws.ensures j (sym is ∙ empty))),
      (λ none. absurd (some_join c.text_laws.ensures.merging r taken j free c.in-Some-joined.ensures.0 c.in-Some-joined.ensures.1 has none)),
    ))

pub returns-in-Some-joined-clause-kept : goal.returns-in-Some-joined-clause-kept
returns-in-Some-joined-clause-kept c =
    let r = c.args.self.now in
    let free = none_unless _ c.places.result r.places c.in_default.not-Some c.places.ensures in
    let j = c.in-Some-joined.joined.now in
    written_so c.args.limit (compact (document j)) (λ bytes. (taken : List Document) → HasTaken r taken → All IsReadable taken → IsKept r bytes) c.text_within.result c.text_within.ensures
    (λ bytes is taken has readable. kept_join c.text_laws.ensures r taken j bytes free c.in-Some-joined.ensures.0 c.in-Some-joined.ensures.1 readable is has)

pub returns-in-None-clause-empty : goal.returns-in-None-clause-empty
returns-in-None-clause-empty c taken has =
    let r = c.args.self.now in
    let free = none_unless _ c.places.result r.places c.in_default.not-Some c.places.ensures in
    let settled = none_if_not r.pending (λ some. let never = c.if-is_pending.ensures.1 some in cc) in
    let no_join : r.joined ≡ None = elim c.in-None.ensures [ inl pending ↦ absurd (pending settled) | inr none ↦ none ] in
    ((λ empty. nothing_taken c.text_laws.ensures.merging r taken free settled no_join has), (λ none. c.new.ensures.bytes))
