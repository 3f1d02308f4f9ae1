-- What a loop over a slice has passed.
use Rattle.std.proofs.Common.{◌<◌, ◌≤◌, ◌+◌, inl, inr, ℕ, zero, suc, List, [], ◌∷◌, ◌++◌, length, take, get_or, sym, subst}
use Rattle.std.proofs.lemmas.List.{take_all, take_more}
use Rattle.std.proofs.lemmas.Option.{get_or_from_slice_get, slice_get-get_or}
use Rattle.std.specs.List.{Contains}
use Rattle.mp_tree.proofs.Facts.{Contains-nil, Contains-head, Contains-tail, Contains-cases}

module _ {X : Type 0} where
  pub element : (xs : List X) (k : ℕ) (d : X) → k < length xs → Contains xs (get_or xs k d)
  element xs k d below = (k, below, get_or_from_slice_get xs k (get_or xs k d) (get_or xs k d) (slice_get-get_or xs k d below))

  -- one more is passed
  pub passed_on : (P : List X → Type 0) (xs : List X) (k : ℕ) (d : X) → k < length xs → P (take k xs ++ get_or xs k d ∷ []) → P (take (k + 1) xs)
  passed_on P xs k d below = subst P (sym (take_more xs k d below))

  -- all are passed
  pub passed_all : (P : List X → Type 0) (xs : List X) (k : ℕ) → length xs ≤ k → P (take k xs) → P xs
  passed_all P xs k past = subst P (take_all k xs past)

  pub within_passed : (xs : List X) (k : ℕ) (x : X) → Contains (take k xs) x → Contains xs x
  within_passed xs zero x at = absurd (Contains-nil x at)
  within_passed [] (suc k) x at = absurd (Contains-nil x at)
  within_passed (y ∷ xs) (suc k) x at = elim (Contains-cases y x (take k xs) at) [
    | inl same ↦ subst (Contains (y ∷ xs)) same (Contains-head y xs)
    | inr there ↦ Contains-tail y x xs (within_passed xs k x there)
  ]

  -- those passed and the next are elements
  pub within_next : (xs : List X) (k : ℕ) (d x : X) → k < length xs → Contains (take k xs ++ get_or xs k d ∷ []) x → Contains xs x
  within_next xs k d x below at = within_passed xs (k + 1) x (subst (λ l. Contains l x) (sym (take_more xs k d below)) at)
