-- The laws of forms: one reading, and shapes are forms.
use Rattle.std.proofs.Common.{◌≡◌, ℕ, List, [], ◌∷◌, map, Some, refl, sym, ap, ap₂, ◌∙◌, subst, arith, codes}
use Rattle.mp_tree.specs.Document.{Document, string, Items, no_items, item, Members, find}
use Rattle.mp_tree.specs.Elements.{items_of}
use Rattle.mp_pointer.specs.Spelling.{Tokens, spell}
use Rattle.mp_pointer.proofs.Facts.{has_one_spelling}
use Rattle.mp_patch.specs.Form.{Carries, EachForm, IsForm, needed_members, shape}
use Rattle.mp_patch.specs.Laws.{HasOneReading, ShapesAreForms}
use Rattle.mp_patch.specs.Operation.{Operation, add, remove, replace, move, copy, test}
use Rattle.mp_tree.proofs.Facts.{members_of_object, same_elements, same_some, same_text_at}
use Rattle.mp_patch.proofs.Forms.Needs.{two_bytes}

-- ---- shapes

shape_is_form : (o : Operation) → IsForm (shape o) o
shape_is_form (add t v) = (_, refl, (refl, (refl, (refl, tt))))
shape_is_form (remove t) = (_, refl, (refl, (refl, tt)))
shape_is_form (replace t v) = (_, refl, (refl, (refl, (refl, tt))))
shape_is_form (move f t) = (_, refl, (refl, (refl, (refl, tt))))
shape_is_form (copy f t) = (_, refl, (refl, (refl, (refl, tt))))
shape_is_form (test t v) = (_, refl, (refl, (refl, (refl, tt))))

each_shape : (operations : List Operation) → EachForm (items_of (map shape operations)) operations
each_shape [] = tt
each_shape (o ∷ operations) = (shape_is_form o, each_shape operations)

pub shapes_are_forms : ShapesAreForms
shapes_are_forms operations = (items_of (map shape operations), refl, each_shape operations)

-- ---- one reading

same_place : (n : List ℕ) (ms : Members) (s t : Tokens) → find n ms ≡ Some (string (spell s)) → find n ms ≡ Some (string (spell t)) → s ≡ t
same_place n ms s t a b = has_one_spelling s t (same_text_at n ms (spell s) (spell t) a b)

-- the members give the name of one operation
one_name : (ms : Members) (s t : List ℕ) → find (codes "op") ms ≡ Some (string s) → find (codes "op") ms ≡ Some (string t) → two_bytes s ≡ two_bytes t
one_name ms s t a b = ap two_bytes (same_text_at (codes "op") ms s t a b)

one_form : (ms : Members) (o p : Operation) → Carries ms (needed_members o) → Carries ms (needed_members p) → o ≡ p
one_form ms (add t v) (add s w) a b = ap₂ add (same_place (codes "path") ms t s a.1.0 b.1.0) (same_some (find (codes "value") ms) v w a.1.1.0 b.1.1.0)
one_form ms (remove t) (remove s) a b = ap remove (same_place (codes "path") ms t s a.1.0 b.1.0)
one_form ms (replace t v) (replace s w) a b = ap₂ replace (same_place (codes "path") ms t s a.1.0 b.1.0) (same_some (find (codes "value") ms) v w a.1.1.0 b.1.1.0)
one_form ms (move f t) (move g s) a b = ap₂ move (same_place (codes "from") ms f g a.1.1.0 b.1.1.0) (same_place (codes "path") ms t s a.1.0 b.1.0)
one_form ms (copy f t) (copy g s) a b = ap₂ copy (same_place (codes "from") ms f g a.1.1.0 b.1.1.0) (same_place (codes "path") ms t s a.1.0 b.1.0)
one_form ms (test t v) (test s w) a b = ap₂ test (same_place (codes "path") ms t s a.1.0 b.1.0) (same_some (find (codes "value") ms) v w a.1.1.0 b.1.1.0)
one_form ms o p a b = absurd (omega (arith, one_name ms _ _ a.0 b.0))

same_form : (d : Document) (o p : Operation) → IsForm d o → IsForm d p → o ≡ p
same_form d o p (ms, is, a) (es, was, b) = one_form ms o p a (subst (λ m. Carries m (needed_members p)) (members_of_object es ms (sym was ∙ is)) b)

each_same : (ds : Items) (operations others : List Operation) → EachForm ds operations → EachForm ds others → operations ≡ others
each_same no_items [] [] a b = refl
each_same no_items [] (p ∷ others) a b = absurd b
each_same no_items (o ∷ operations) others a b = absurd a
each_same (item d ds) [] others a b = absurd a
each_same (item d ds) (o ∷ operations) [] a b = absurd b
each_same (item d ds) (o ∷ operations) (p ∷ others) a b = ap₂ (λ x xs. x ∷ xs) (same_form d o p a.0 b.0) (each_same ds operations others a.1 b.1)

pub has_one_reading : HasOneReading
has_one_reading d operations others (ds, is, a) (es, was, b) = each_same ds operations others a (subst (λ xs. EachForm xs others) (same_elements es ds (sym was ∙ is)) b)
