-- What the editing of one part says of the document around it.
use Rattle.std.proofs.Common.{◌≡◌, ◌<◌, ◌+◌, ◌-◌, ℕ, suc, List, [], ◌∷◌, take, Option, None, Some, option_and_then, MatchOption, refl, sym, ap, ap₂, ◌∙◌, subst, arith}
use Rattle.std.specs.List.{slice_get, slice_range}
use Rattle.mp_tree.specs.Document.{Document, IsDocument}
use Rattle.mp_tree.specs.View.{document}
use Rattle.mp_tree.specs.declared.doc.Doc.{Doc}
use Rattle.mp_pointer.specs.Editing.{EditsAt, EditsBy}
use Rattle.mp_pointer.specs.Borrowing.{PartBecomes}
use Rattle.mp_pointer.specs.Difference.{DifferOnlyAt}
use Rattle.mp_pointer.specs.Part.{part, child}
use Rattle.mp_pointer.specs.Spelling.{Tokens}
use Rattle.mp_pointer.proofs.Parts.Along.{part-push, DifferOnlyAt-root}
use Rattle.mp_pointer.proofs.Tokens.Lists.{drop_token}
use Rattle.mp_pointer.proofs.Changes.Written.{becomes_deeper, nothing_changed-by}

-- ---- the tokens from a place on

pub slice_range-none : (t : Tokens) (number end : ℕ) → number ≡ end → slice_range t number end ≡ []
slice_range-none t number end same = let none : end - number ≡ 0 = omega arith in rw none refl

pub slice_range-more : (t : Tokens) (number end : ℕ) (token : List ℕ) → slice_get t number ≡ Some token → number < end → slice_range t number end ≡ token ∷ slice_range t (number + 1) end
slice_range-more t number end token here more =
    let count : end - number ≡ suc (end - (number + 1)) = omega arith in
    ap₂ take count (drop_token t number token here)

-- from the first token on
pub from_first : (t : Tokens) (count : ℕ) → slice_range t 0 count ≡ take count t
from_first t count = let e : count - 0 ≡ count = omega arith in rw e refl

-- ---- what an edit that may find nothing says one level up

pub part-none : (d : Document) (s t : Tokens) (token : List ℕ) → s ≡ token ∷ t → child token d ≡ None → part d s ≡ None
part-none d s t token is none = ap (part d) is ∙ ap (option_and_then (λ f. part f t)) none

module _ {V : Type 0} (f : V → Document) where
  pub edits_here-by : (Edited : V → V → Type 0) (t : Tokens) (d e : V) → t ≡ [] → Edited d e → EditsBy f Edited t d e
  edits_here-by Edited t d e none edited = record {
    before = d;
    after = e;
    edited = edited;
    stood = ap (part (f d)) none;
    stands = ap (part (f e)) none;
    only = subst (λ s. DifferOnlyAt s (f d) (f e)) (sym none) (DifferOnlyAt-root (f d) (f e));
  }

  edits_deeper-by : (Edited : V → V → Type 0) (token : List ℕ) (t : Tokens) (d e x y : V) → child token (f d) ≡ Some (f x) → PartBecomes (token ∷ []) (f y) (f d) (f e) → EditsBy f Edited t x y
      → EditsBy f Edited (token ∷ t) d e
  edits_deeper-by Edited token t d e x y here outer edits =
      let both = becomes_deeper (token ∷ []) t (f edits.after) (f y) (f d) (f x) (f e) (part-push (f d) [] token ∙ here) outer (record { stands = edits.stands; only = edits.only }) in
      record {
        before = edits.before;
        after = edits.after;
        edited = edits.edited;
        stood = ap (option_and_then (λ g. part g t)) here ∙ edits.stood;
        stands = both.stands;
        only = both.only;
      }

  pub edited_child-by : (good : (v : V) → IsDocument (f v)) {R : Type 0} (Edited : R → V → V → Type 0) (r : Option R) (token : List ℕ) (s t : Tokens) (d e x y : V) → s ≡ token ∷ t → child token (f d) ≡ Some (f x) → PartBecomes (token ∷ []) (f y) (f d) (f e)
      → MatchOption r ((part (f x) t ≡ None) × (f y ≡ f x)) (λ o. EditsBy f (Edited o) t x y)
      → MatchOption r ((part (f d) s ≡ None) × (f e ≡ f d)) (λ o. EditsBy f (Edited o) s d e)
  edited_child-by good Edited None token s t d e x y is here outer edits =
      (ap (part (f d)) is ∙ ap (option_and_then (λ g. part g t)) here ∙ edits.0, nothing_changed-by f good (token ∷ []) d e x y (part-push (f d) [] token ∙ here) outer edits.1)
  edited_child-by good Edited (Some o) token s t d e x y is here outer edits = subst (λ u. EditsBy f (Edited o) u d e) (sym is) (edits_deeper-by (Edited o) token t d e x y here outer edits)

-- ---- of a document

pub edited_doc : {R : Type 0} (Edited : R → Doc → Doc → Type 0) (r : Option R) (t : Tokens) (d e : Doc)
    → MatchOption r ((part (document d) t ≡ None) × (document e ≡ document d)) (λ o. EditsBy document (Edited o) t d e)
    → MatchOption r ((part (document d) t ≡ None) × (document e ≡ document d)) (λ o. EditsAt (Edited o) t d e)
edited_doc Edited None t d e none = none
edited_doc Edited (Some o) t d e edits = record { before = edits.before; after = edits.after; edited = edits.edited; stood = edits.stood; stands = edits.stands; only = edits.only }
