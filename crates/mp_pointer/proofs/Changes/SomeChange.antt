-- A part of a document can be changed: some document has another part there, and differs nowhere else.
use Rattle.std.proofs.Common.{◌≡◌, ◌+◌, List, ℕ, [], ◌∷◌, Option, None, Some, option_and_then, refl, ap, ◌∙◌, arith}
use Rattle.mp_tree.specs.Document.{Document, null, flag, whole, string, list, object, put, IsDocument}
use Rattle.mp_pointer.specs.Difference.{DifferOnlyAt}
use Rattle.mp_pointer.specs.Part.{part, child, numeral}
use Rattle.mp_pointer.specs.Spelling.{Tokens}
use Rattle.mp_pointer.proofs.Changes.Child.{ChildChanges, element_changes, value_changes}
use Rattle.mp_pointer.proofs.Tokens.Indices.{element_found}
use Rattle.mp_pointer.proofs.Parts.Documents.{part-document}
use Rattle.mp_pointer.proofs.Parts.Along.{DifferOnlyAt-root, DifferOnlyAt-child}
use Rattle.mp_tree.proofs.Facts.{set_item}

abbrev Changed : List ℕ → Document → Document → Document → Type 0
Changed token d x y = (e : Document) × ChildChanges token d e x y

change_child : (token : List ℕ) (d x y : Document) → IsDocument d → child token d ≡ Some x → Changed token d x y
unfolding child
change_child token null x y good is = cc
change_child token (flag b) x y good is = cc
change_child token (whole z) x y good is = cc
change_child token (string s) x y good is = cc
change_child token (list ds) x y good is = let found = element_found 0 token ds x is in let at : 0 + found.0 ≡ found.0 = omega arith in (list (set_item found.0 y ds), element_changes token found.0 ds x y (found.1 ∙ ap numeral at) found.2)
change_child token (object ms) x y good is = (object (put token y ms), value_changes token ms x y good is)

abbrev Rewritten : Tokens → Document → Document → Type 0
Rewritten t d y = (e : Document) × (part e t ≡ Some y) × DifferOnlyAt t d e

pub rewrite_part : (t : Tokens) (d x y : Document) → IsDocument d → part d t ≡ Some x → Rewritten t d y
rewrite_part [] d x y good is = (y, refl, DifferOnlyAt-root d y)
rewrite_part (token ∷ t) d x y good is = through (child token d) refl (λ c. rewrite_part t c x y) is
  where
    through : (o : Option Document) → child token d ≡ o → ((c : Document) → IsDocument c → part c t ≡ Some x → Rewritten t c y) → option_and_then (λ f. part f t) o ≡ Some x → Rewritten (token ∷ t) d y
    through None here later is = cc
    through (Some c) here later is =
        let below = later c (part-document (token ∷ []) d c good (ap (option_and_then (λ f. Some f)) here)) is in
        let changed = change_child token d c below.0 good here in
        let changes = changed.1 in (
          changed.0,
          ap (option_and_then (λ f. part f t)) changes.there ∙ below.1,
          DifferOnlyAt-child token t d changed.0 c below.0 changes.alike changes.others changes.here changes.there below.2,
        )
