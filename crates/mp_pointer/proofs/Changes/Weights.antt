-- A document in which one part is changed weighs as much more as that part does.
use Rattle.std.proofs.Common.{◌≡◌, ◌≤◌, ◌+◌, List, ℕ, [], ◌∷◌, Option, None, Some, option_and_then, refl, sym, ap, ◌∙◌, arith}
use Rattle.mp_tree.specs.Document.{Document, null, flag, whole, string, list, object, put, IsDocument}
use Rattle.mp_tree.specs.Weight.{weight}
use Rattle.mp_pointer.specs.Difference.{DifferOnlyAt}
use Rattle.mp_pointer.specs.Laws.{WeighsByPart}
use Rattle.mp_pointer.specs.Part.{part, child, numeral}
use Rattle.mp_pointer.specs.Spelling.{Tokens}
use Rattle.mp_pointer.proofs.Changes.Child.{ChildChanges, element_changes, value_changes}
use Rattle.mp_pointer.proofs.Tokens.Indices.{element_found}
use Rattle.mp_pointer.proofs.Parts.Documents.{part-document, document-changed}
use Rattle.mp_pointer.proofs.Parts.Kinds.{equals_by_part}
use Rattle.mp_pointer.proofs.Parts.Along.{DifferOnlyAt-root, DifferOnlyAt-child, DifferOnlyAt-sym, DifferOnlyAt-trans}
use Rattle.mp_tree.proofs.Facts.{set_item, weight_at, items_weight-set, least-weight, members_weight-put}

-- one child is another one
abbrev Weighed : List ℕ → Document → Document → Document → Type 0
Weighed token d x y = (e : Document) × ChildChanges token d e x y × (weight e + weight x ≡ weight d + weight y)

change_child : (token : List ℕ) (d x y : Document) → IsDocument d → child token d ≡ Some x → Weighed token d x y
unfolding child
change_child token null x y good is = cc
change_child token (flag b) x y good is = cc
change_child token (whole z) x y good is = cc
change_child token (string s) x y good is = cc
change_child token (list ds) x y good is =
    let found = element_found 0 token ds x is in
    let at : 0 + found.0 ≡ found.0 = omega arith in
    (list (set_item found.0 y ds), element_changes token found.0 ds x y (found.1 ∙ ap numeral at) found.2, omega (arith, items_weight-set found.0 x y ds found.2))
change_child token (object ms) x y good is =
    (object (put token y ms), value_changes token ms x y good is, omega (arith, members_weight-put token y ms good, ap (weight_at token) is))

abbrev Reweighed : Tokens → Document → Document → Document → Type 0
Reweighed t d x y = (e : Document) × (part e t ≡ Some y) × DifferOnlyAt t d e × (weight e + weight x ≡ weight d + weight y)

some_change : (t : Tokens) (d x y : Document) → IsDocument d → part d t ≡ Some x → Reweighed t d x y
some_change [] d x y good is = let same : d ≡ x = cc in (y, refl, DifferOnlyAt-root d y, omega (arith, ap weight same))
some_change (token ∷ t) d x y good is = through (child token d) refl (λ c. some_change t c x y) is
  where
    through : (o : Option Document) → child token d ≡ o → ((c : Document) → IsDocument c → part c t ≡ Some x → Reweighed t c x y) → option_and_then (λ f. part f t) o ≡ Some x → Reweighed (token ∷ t) d x y
    through None here later is = cc
    through (Some c) here later is =
        let below = later c (part-document (token ∷ []) d c good (ap (option_and_then (λ f. Some f)) here)) is in
        let changed = change_child token d c below.0 good here in
        let changes = changed.1 in (
          changed.0,
          ap (option_and_then (λ f. part f t)) changes.there ∙ below.1,
          DifferOnlyAt-child token t d changed.0 c below.0 changes.alike changes.others changes.here changes.there below.2,
          omega (arith, below.3, changed.2),
        )

pub weighs_by_part : WeighsByPart
weighs_by_part t d e x y good new only stood stands =
    let other = some_change t d x y good stood in
    let f = other.0 in
    let same : e ≡ f =
    equals_by_part t e f y new (document-changed t d f y good other.2 other.1 (part-document t e y new stands))
    (DifferOnlyAt-trans t e d f (DifferOnlyAt-sym t d e only) other.2) stands other.1 in
    omega (arith, ap weight same, other.3)

-- a part weighs no more than what holds it
pub part-weight : (t : Tokens) (d x : Document) → IsDocument d → part d t ≡ Some x → weight x ≤ weight d
part-weight t d x good stood = let other = some_change t d x null good stood in omega (arith, other.3, least-weight other.0)
