-- The laws of runs: one end, one refusal, and no document too deep.
use Rattle.std.proofs.Common.{◌≡◌, ◌≢◌, ◌⊎◌, inl, inr, ℕ, zero, suc, List, [], ◌∷◌, get_or, take, Some, refl, sym, ap, ap₂, ◌∙◌, subst, arith}
use Rattle.std.specs.List.{slice_get}
use Rattle.mp_tree.specs.Document.{Document, list, object, Items, item, IsDocument, depth, put}
use Rattle.mp_pointer.specs.Difference.{DifferOnlyAt}
use Rattle.mp_pointer.specs.Part.{part, numeral}
use Rattle.mp_tree.specs.Elements.{count_of, append}
use Rattle.mp_pointer.specs.Spelling.{Tokens}
use Rattle.mp_pointer.proofs.Facts.{same_numeral, numeral_first, equals_by_part, DifferOnlyAt-sym, DifferOnlyAt-trans, part-document, document-changed, same_last, not_empty}
use Rattle.mp_patch.specs.Laws.{HasOneEnd, RunsUnrefused, HasOneRefusal, StaysShallow}
use Rattle.mp_patch.specs.Operation.{HasDocument}
use Rattle.mp_patch.specs.Operation.{Operation, add, remove, replace, move, copy, test, AddsTo, to_map, to_list, dash, NamesPlace, Adds, Removes, Step}
use Rattle.mp_patch.specs.Refusal.{RefusedBy, causes}
use Rattle.mp_patch.specs.Run.{Runs}
use Rattle.mp_tree.proofs.Facts.{append_nothing, members_of_object, no_list_is_map, same_elements, same_parts, some_same}
use Rattle.mp_patch.proofs.Operations.Depth.{Step-depth}
use Rattle.mp_patch.proofs.Operations.Documents.{Adds-document, Removes-document, Removes-once}
use Rattle.mp_patch.proofs.FirstCause.{one_first}

-- ---- each step gives a document

moved-document : (f t : Tokens) (x d e : Document) → IsDocument d → part d f ≡ Some x → ((f ≡ t) × (e ≡ d)) ⊎ ((f ≢ t) × (left : Document) × Removes f d left × Adds t x left e) → IsDocument e
moved-document f t x d e good stood (inl same) = subst IsDocument (sym same.1) good
moved-document f t x d e good stood (inr (other, left, removes, adds)) = Adds-document t x left e (Removes-document f d left good removes) (part-document f d x good stood) adds

pub Step-document : (d : Document) (o : Operation) (e : Document) → IsDocument d → HasDocument o → Step d o e → IsDocument e
Step-document d (add t v) e good value step = Adds-document t v d e good value step
Step-document d (remove t) e good value step = Removes-document t d e good step
Step-document d (replace t v) e good value step = document-changed t d e v good step.2 step.1 value
Step-document d (move f t) e good value step = moved-document f t step.0 d e good step.1 step.2
Step-document d (copy f t) e good value step = Adds-document t step.0 d e good (part-document f d step.0 good step.1) step.2
Step-document d (test t v) e good value step = subst IsDocument (sym step.1) good

-- ---- and one document alone

dash_is_no_index : {P : Type 0} (i : ℕ) → dash ≡ numeral i → P
dash_is_no_index i e = let digits = numeral_first i in absurd (omega (arith, digits.1, ap (λ n. get_or n 0 0) e))

one_place : (token : List ℕ) (front back front' back' : Items) → append front back ≡ append front' back' → NamesPlace token front back → NamesPlace token front' back' → (front ≡ front') × (back ≡ back')
one_place token front back front' back' same (inl i) (inl j) = same_parts front back front' back' (same_numeral (count_of front) (count_of front') (sym i ∙ j)) same
one_place token front back front' back' same (inl i) (inr j) = dash_is_no_index (count_of front) (sym j.0 ∙ i)
one_place token front back front' back' same (inr i) (inl j) = dash_is_no_index (count_of front') (sym i.0 ∙ j)
one_place token front back front' back' same (inr i) (inr j) = (append_nothing front front' (ap (append front) (sym i.1) ∙ same ∙ ap (append front') j.1), i.1 ∙ sym j.1)

adds_once : (v : Document) (token : List ℕ) (x y z : Document) → AddsTo v token x y → AddsTo v token x z → y ≡ z
adds_once v token x y z (to_map ms is now) (to_map es was then) = now ∙ ap (λ m. object (put token v m)) (members_of_object ms es (sym is ∙ was)) ∙ sym then
adds_once v token x y z (to_map ms is now) (to_list front back names_it was then) = no_list_is_map ms (append front back) (sym is ∙ was)
adds_once v token x y z (to_list front back names_it is now) (to_map ms was then) = no_list_is_map ms (append front back) (sym was ∙ is)
adds_once v token x y z (to_list front back names_it is now) (to_list front' back' names_too was then) =
    let parts = one_place token front back front' back' (same_elements (append front back) (append front' back') (sym is ∙ was)) names_it names_too in
    now ∙ ap list (ap₂ (λ a b. append a (item v b)) parts.0 parts.1) ∙ sym then

Adds-once : (t : Tokens) (v d e f : Document) → IsDocument d → IsDocument v → Adds t v d e → Adds t v d f → e ≡ f
Adds-once t v d e f good value (inl a) (inl b) = a.1 ∙ sym b.1
Adds-once t v d e f good value (inl a) (inr k) = absurd (not_empty k.container k.last (sym k.is ∙ a.0))
Adds-once t v d e f good value (inr c) (inl b) = absurd (not_empty c.container c.last (sym c.is ∙ b.0))
Adds-once t v d e f good value (inr c) (inr k) =
    let places = same_last c.container k.container c.last k.last (sym c.is ∙ k.is) in
    let start : c.before ≡ k.before = some_same c.before k.before (sym c.stood ∙ ap (part d) places.0 ∙ k.stood) in
    let changed : AddsTo v c.last c.before k.after = subst (λ x. AddsTo v c.last x k.after) (sym start) (subst (λ n. AddsTo v n k.before k.after) (sym places.1) k.changed) in
    let end : c.after ≡ k.after = adds_once v c.last c.before c.after k.after c.changed changed in
    let only : DifferOnlyAt c.container d f = subst (λ s. DifferOnlyAt s d f) (sym places.0) k.only in
    equals_by_part c.container e f c.after (Adds-document t v d e good value (inr c)) (Adds-document t v d f good value (inr k)) (DifferOnlyAt-trans c.container e d f (DifferOnlyAt-sym c.container d e c.only) only) c.stands
    (ap (part f) places.0 ∙ k.stands ∙ ap Some (sym end))

moved-once : (f t : Tokens) (x y d e e' : Document) → IsDocument d → part d f ≡ Some x → part d f ≡ Some y → ((f ≡ t) × (e ≡ d)) ⊎ ((f ≢ t) × (left : Document) × Removes f d left × Adds t x left e)
    → ((f ≡ t) × (e' ≡ d)) ⊎ ((f ≢ t) × (left : Document) × Removes f d left × Adds t y left e') → e ≡ e'
moved-once f t x y d e e' good here there (inl a) (inl b) = a.1 ∙ sym b.1
moved-once f t x y d e e' good here there (inl a) (inr b) = absurd (b.0 a.0)
moved-once f t x y d e e' good here there (inr a) (inl b) = absurd (a.0 b.0)
moved-once f t x y d e e' good here there (inr (other, left, removes, adds)) (inr (other', left', removes', adds')) =
    let same = Removes-once f d left' left good removes' removes in
    let value = some_same y x (sym there ∙ here) in
    Adds-once t x left e e' (Removes-document f d left good removes) (part-document f d x good here) adds (subst (λ v. Adds t v left e') value (subst (λ m. Adds t y m e') same adds'))

pub Step-once : (d : Document) (o : Operation) (e f : Document) → IsDocument d → HasDocument o → Step d o e → Step d o f → e ≡ f
Step-once d (add t v) e f good value a b = Adds-once t v d e f good value a b
Step-once d (remove t) e f good value a b = Removes-once t d e f good a b
Step-once d (replace t v) e f good value a b =
    equals_by_part t e f v (Step-document d (replace t v) e good value a) (Step-document d (replace t v) f good value b) (DifferOnlyAt-trans t e d f (DifferOnlyAt-sym t d e a.2) b.2) a.1 b.1
Step-once d (move s t) e f good value a b = moved-once s t a.0 b.0 d e f good a.1 b.1 a.2 b.2
Step-once d (copy s t) e f good value a b =
    let same = some_same b.0 a.0 (sym b.1 ∙ a.1) in
    Adds-once t a.0 d e f good (part-document s d a.0 good a.1) a.2 (subst (λ v. Adds t v d f) same b.2)
Step-once d (test t v) e f good value a b = a.1 ∙ sym b.1

-- ---- runs

pub has_one_end : HasOneEnd
has_one_end d e f [] good values a b = a ∙ sym b
has_one_end d e f (o ∷ operations) good values a b =
    let same = Step-once d o b.1 a.1 good values.0 b.2 a.2 in
    has_one_end a.1 e f operations (Step-document d o a.1 good values.0 a.2) values.1 a.3 (subst (λ m. Runs m operations f) same b.3)

pub stays_shallow : StaysShallow
stays_shallow d e [] good values run shallow = omega (arith, ap depth run)
stays_shallow d e (o ∷ operations) good values run shallow =
    let new = Step-document d o run.1 good values.0 run.2 in
    stays_shallow run.1 e operations new values.1 run.3 (Step-depth d o run.1 run.0 run.2 good new shallow)

same_operation : (o p : Operation) → Some o ≡ Some p → o ≡ p
same_operation o p e = cc

pub runs_unrefused : RunsUnrefused
runs_unrefused d e [] k cause good values run (m, before, o, there, refused) = none there
  where
    none : slice_get [] k ≡ Some o → ⊥
    none e = cc
runs_unrefused d e (p ∷ operations) zero cause good values run (m, before, o, there, refused) =
    run.0 (cause, subst (λ q. RefusedBy d q cause) (sym (same_operation p o there)) (subst (λ x. RefusedBy x o cause) before refused))
runs_unrefused d e (p ∷ operations) (suc k) cause good values run (m, before, o, there, refused) =
    let same = Step-once d p before.1 run.1 good values.0 before.2 run.2 in
    runs_unrefused run.1 e operations k cause (Step-document d p run.1 good values.0 run.2) values.1 run.3 (m, subst (λ x. Runs x (take k operations) m) same before.3, o, there, refused)

pub has_one_refusal : HasOneRefusal
has_one_refusal d [] k n a b good values (m, before, o, there, refused) other = none there
  where
    none : {P : Type 0} → slice_get [] k ≡ Some o → P
    none e = cc
has_one_refusal d (p ∷ operations) zero zero a b good values (m, before, o, there, refused) (l, first, q, here, again) =
    let left : RefusedBy d p a = subst (λ r. RefusedBy d r a) (sym (same_operation p o there)) (subst (λ x. RefusedBy x o a) before refused) in
    let right : RefusedBy d p b = subst (λ r. RefusedBy d r b) (sym (same_operation p q here)) (subst (λ x. RefusedBy x q b) first again) in
    (refl, one_first (causes d p) a b left right)
has_one_refusal d (p ∷ operations) zero (suc n) a b good values (m, before, o, there, refused) (l, first, q, here, again) =
    absurd (first.0 (a, subst (λ r. RefusedBy d r a) (sym (same_operation p o there)) (subst (λ x. RefusedBy x o a) before refused)))
has_one_refusal d (p ∷ operations) (suc k) zero a b good values (m, before, o, there, refused) (l, first, q, here, again) =
    absurd (before.0 (b, subst (λ r. RefusedBy d r b) (sym (same_operation p q here)) (subst (λ x. RefusedBy x q b) first again)))
has_one_refusal d (p ∷ operations) (suc k) (suc n) a b good values (m, before, o, there, refused) (l, first, q, here, again) =
    let same = Step-once d p first.1 before.1 good values.0 first.2 before.2 in
    let rest = has_one_refusal before.1 operations k n a b (Step-document d p before.1 good values.0 before.2) values.1 (m, before.3, o, there, refused) (l, subst (λ x. Runs x (take n operations) l) same first.3, q, here, again) in
    (ap suc rest.0, rest.1)
