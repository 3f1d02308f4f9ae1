-- An operation on a document gives a document: each map has its names once and in order. And what it gives is the only one.
use Rattle.std.proofs.Common.{◌≡◌, inl, inr, ℕ, List, Some, sym, ap, ap₂, ◌∙◌, subst}
use Rattle.mp_tree.specs.Document.{Document, list, object, item, without, IsDocument}
use Rattle.mp_tree.proofs.Facts.{IsMap-put, IsMap-without, append-documents, documents-append, members_of_object, no_list_is_map, same_elements, same_item, same_parts, some_same}
use Rattle.mp_pointer.specs.Difference.{DifferOnlyAt}
use Rattle.mp_pointer.specs.Part.{part}
use Rattle.mp_tree.specs.Elements.{count_of, append}
use Rattle.mp_pointer.specs.Spelling.{Tokens}
use Rattle.mp_pointer.proofs.Facts.{same_numeral, equals_by_part, DifferOnlyAt-sym, DifferOnlyAt-trans, part-document, document-changed, same_last}
use Rattle.mp_patch.specs.Operation.{AddsTo, to_map, to_list, RemovesFrom, from_map, from_list, Adds, Removes}

-- ---- a map or a list that was changed

adds-document : (v : Document) (token : List ℕ) (x y : Document) → IsDocument x → IsDocument v → AddsTo v token x y → IsDocument y
adds-document v token x y good value (to_map ms is now) = subst IsDocument (sym now) (IsMap-put token v ms value (subst IsDocument is good))
adds-document v token x y good value (to_list front back names_it is now) =
    let parts = documents-append front back (subst IsDocument is good) in
    subst IsDocument (sym now) (append-documents front (item v back) parts.0 (value, parts.1))

removes-document : (token : List ℕ) (x y : Document) → IsDocument x → RemovesFrom token x y → IsDocument y
removes-document token x y good (from_map ms v here is now) = subst IsDocument (sym now) (IsMap-without token ms (subst IsDocument is good))
removes-document token x y good (from_list front back v names_it is now) =
    let parts = documents-append front (item v back) (subst IsDocument is good) in
    subst IsDocument (sym now) (append-documents front back parts.0 parts.1.1)

-- ---- operations

pub Adds-document : (t : Tokens) (v d e : Document) → IsDocument d → IsDocument v → Adds t v d e → IsDocument e
Adds-document t v d e good value (inl root) = subst IsDocument (sym root.1) value
Adds-document t v d e good value (inr c) = document-changed c.container d e c.after good c.only c.stands (adds-document v c.last c.before c.after (part-document c.container d c.before good c.stood) value c.changed)

pub Removes-document : (t : Tokens) (d e : Document) → IsDocument d → Removes t d e → IsDocument e
Removes-document t d e good c = document-changed c.container d e c.after good c.only c.stands (removes-document c.last c.before c.after (part-document c.container d c.before good c.stood) c.changed)

-- ---- one outcome

removes_once : (token : List ℕ) (x y z : Document) → RemovesFrom token x y → RemovesFrom token x z → y ≡ z
removes_once token x y z (from_map ms v here is now) (from_map es w there was then) = now ∙ ap (λ m. object (without token m)) (members_of_object ms es (sym is ∙ was)) ∙ sym then
removes_once token x y z (from_map ms v here is now) (from_list front back w names_it was then) = no_list_is_map ms (append front (item w back)) (sym is ∙ was)
removes_once token x y z (from_list front back v names_it is now) (from_map ms w here was then) = no_list_is_map ms (append front (item v back)) (sym was ∙ is)
removes_once token x y z (from_list front back v names_it is now) (from_list front' back' w names_too was then) =
    let long = same_numeral (count_of front) (count_of front') (sym names_it ∙ names_too) in
    let parts = same_parts front (item v back) front' (item w back') long (same_elements (append front (item v back)) (append front' (item w back')) (sym is ∙ was)) in
    now ∙ ap list (ap₂ append parts.0 (same_item v w back back' parts.1).1) ∙ sym then

pub Removes-once : (t : Tokens) (d e f : Document) → IsDocument d → Removes t d e → Removes t d f → e ≡ f
Removes-once t d e f good c k =
    let places = same_last c.container k.container c.last k.last (sym c.is ∙ k.is) in
    let start : c.before ≡ k.before = some_same c.before k.before (sym c.stood ∙ ap (part d) places.0 ∙ k.stood) in
    let changed : RemovesFrom c.last c.before k.after = subst (λ x. RemovesFrom c.last x k.after) (sym start) (subst (λ n. RemovesFrom n k.before k.after) (sym places.1) k.changed) in
    let end : c.after ≡ k.after = removes_once c.last c.before c.after k.after c.changed changed in
    let only : DifferOnlyAt c.container d f = subst (λ s. DifferOnlyAt s d f) (sym places.0) k.only in
    equals_by_part c.container e f c.after (Removes-document t d e good c) (Removes-document t d f good k) (DifferOnlyAt-trans c.container e d f (DifferOnlyAt-sym c.container d e c.only) only) c.stands
    (ap (part f) places.0 ∙ k.stands ∙ ap Some (sym end))
