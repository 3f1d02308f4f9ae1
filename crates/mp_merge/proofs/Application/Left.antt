-- A merge into nothing, one name after another.
use Rattle.std.proofs.Common.{◌≡◌, ℕ, List, None, Some, refl, sym, ap, ◌∙◌}
use Rattle.mp_tree.specs.Document.{Document, null, Members, no_members, member, find, put, without, IsMap}
use Rattle.mp_tree.proofs.Facts.{cases_same, find-below, find-here, find-put, find-without, is_name-self, IsMap-without, members_same}
use Rattle.mp_merge.specs.Application.{merge_patch, merge_patch_members}
use Rattle.mp_merge.proofs.Application.ByName.{merge_patch_members-step, set_or_remove-other}

-- the changes that are left, applied to what is there so far, give what all leave; and no name of theirs is there
pub record LeftSoFar (ts left all : Members) : Type 0 where
  pub gives : merge_patch_members no_members all ≡ merge_patch_members ts left
  pub apart : (n : List ℕ) (p : Document) → find n left ≡ Some p → find n ts ≡ None

pub left_of_all : (ts all : Members) → LeftSoFar ts no_members all → ts ≡ merge_patch_members no_members all
left_of_all ts all so_far = sym so_far.gives

without_none : (n : List ℕ) (ts : Members) → IsMap ts → find n ts ≡ None → without n ts ≡ ts
without_none n ts targets none =
    members_same (without n ts) ts (IsMap-without n ts targets) targets
    (λ q. find-without q n ts targets ∙ cases_same q n (λ here. rw (here, is_name-self) (sym none)) (λ other. rw other refl))

module _ (ts : Members) (n : List ℕ) (p : Document) (left all : Members) (targets : IsMap ts) (map : IsMap (member n p left)) (so_far : LeftSoFar ts (member n p left) all) where
  absent : find n ts ≡ None
  absent = so_far.apart n p (find-here n p left)

  -- the names after the first are not there, and none of them is the first
  others_apart : (m : List ℕ) (q : Document) → find m left ≡ Some q → (is_name-other : (m ≡ n → ⊥)) → find m ts ≡ None
  others_apart m q found other = so_far.apart m q (cases_same m n (λ here. absurd (other here)) (λ unlike. rw unlike found))

  unlike_first : (m : List ℕ) (q : Document) → find m left ≡ Some q → m ≡ n → ⊥
  unlike_first m q found here = let none : find m left ≡ None = ap (λ k. find k left) here ∙ find-below n left map.1 in cc

  pub left_after_null : p ≡ null → LeftSoFar ts left all
  left_after_null is = record {
    gives = so_far.gives ∙ merge_patch_members-step ts n p left targets map ∙ ap (λ ms. merge_patch_members ms left) (rw is (without_none n ts targets absent));
    apart = λ m q found. others_apart m q found (unlike_first m q found);
  }

  pub left_after_one : (p ≡ null → ⊥) → LeftSoFar (put n (merge_patch None p) ts) left all
  left_after_one other = record {
    gives = so_far.gives ∙ merge_patch_members-step ts n p left targets map ∙ ap (λ ms. merge_patch_members ms left) (set_or_remove-other n p _ ts other ∙ ap (λ t. put n (merge_patch t p) ts) absent);
    apart = λ m q found. find-put m n (merge_patch None p) ts ∙ cases_same m n (λ here. absurd (unlike_first m q found here)) (λ unlike. rw unlike (others_apart m q found (unlike_first m q found)));
  }
