-- A list that a loop goes over: what it has passed, and what is left.
use Rattle.std.proofs.Common.{◌≡◌, List, [], ◌∷◌, ◌++◌, map, sym, ap, ◌∙◌, subst, append_assoc, append-nil}
use Rattle.std.specs.Vec.Iter.{into_iter_items, into_iter_len}
use Rattle.std.specs.declared.vec.IntoIter.{IntoIter}
use Rattle.mp_tree.proofs.Lists.{map-push, empty_from_length}

pub record Passed {A : Type 0} (xs left : List A) (Holds : List A → Type 0) : Type 0 where
  pub passed : List A
  pub all : xs ≡ passed ++ left
  pub holds : Holds passed

module _ {A : Type 0} {xs left : List A} {Holds : List A → Type 0} (p : Passed xs left Holds) where
  pub Passed-next : {x : A} {more : List A} → left ≡ x ∷ more → xs ≡ p.passed ++ x ∷ more
  Passed-next next = p.all ∙ ap (λ ys. p.passed ++ ys) next

  pub Passed-step : {x : A} {more : List A} {HoldsNow : List A → Type 0} → left ≡ x ∷ more → HoldsNow (p.passed ++ x ∷ []) → Passed xs more HoldsNow
  Passed-step {x = x} {more = more} next holds = record {
    passed = p.passed ++ x ∷ [];
    all = Passed-next next ∙ sym (append_assoc p.passed (x ∷ []) more);
    holds = holds;
  }

  pub Passed-end : left ≡ [] → Holds xs
  Passed-end none = subst Holds (sym (p.all ∙ ap (λ ys. p.passed ++ ys) none ∙ append-nil p.passed)) p.holds

-- each element that was passed is kept as one that is seen as it is
pub Passed-push : {A B C : Type 0} (f : A → C) (g : B → C) {ys left more : List B} {y : B} (xs new : List A) (x : A)
    → Passed ys left (λ passed. map f xs ≡ map g passed) → left ≡ y ∷ more → new ≡ xs ++ x ∷ [] → f x ≡ g y → Passed ys more (λ passed. map f new ≡ map g passed)
Passed-push f g {y = y} xs new x p next pushed same = Passed-step p next (ap (map f) pushed ∙ map-push f g xs p.passed x y p.holds same)

-- what is taken out of a `Vec` is over when none is left
pub over-into_iter : {A Z : Type 0} (it : IntoIter A Z) → into_iter_len it ≡ 0 → into_iter_items it ≡ []
over-into_iter it none = empty_from_length (into_iter_items it) (sym it.rest.ok.0 ∙ none)
