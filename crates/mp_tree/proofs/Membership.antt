-- Membership in a list, element by element.
use Rattle.std.proofs.Common.{◌≡◌, ◌<◌, ◌⊎◌, inl, inr, ℕ, zero, suc, List, [], ◌∷◌, length, slice_index_or, refl, arith}
use Rattle.std.specs.List.{Contains}

module _ {X : Type 0} where
  pub Contains-nil : (x : X) → Contains [] x → ⊥
  Contains-nil x at = let below = at.1 in absurd (omega arith)

  pub Contains-head : (x : X) (xs : List X) → Contains (x ∷ xs) x
  Contains-head x xs = (0, omega arith, refl)

  pub Contains-tail : (x y : X) (xs : List X) → Contains xs y → Contains (x ∷ xs) y
  Contains-tail x y xs at = let below = at.1 in (suc at.0, omega arith, at.2)

  pub Contains-cases : (x y : X) (xs : List X) → Contains (x ∷ xs) y → (x ≡ y) ⊎ Contains xs y
  Contains-cases x y xs at = by at.0 at.1 at.2
    where
      by : (k : ℕ) → k < length (x ∷ xs) → slice_index_or (x ∷ xs) k y ≡ y → (x ≡ y) ⊎ Contains xs y
      by zero below same = inl same
      by (suc k) below same = inr (k, omega arith, same)

  pub Contains-one : (x y : X) → Contains (x ∷ []) y → x ≡ y
  Contains-one x y at = elim (Contains-cases x y [] at) [ inl same ↦ same | inr none ↦ absurd (Contains-nil y none) ]

  pub Contains-twice : (x y : X) → Contains (x ∷ x ∷ []) y → x ≡ y
  Contains-twice x y at = elim (Contains-cases x y (x ∷ []) at) [ inl same ↦ same | inr there ↦ Contains-one x y there ]

  pub no_member : (xs : List X) → ((x : X) → ¬ Contains xs x) → xs ≡ []
  no_member [] none = refl
  no_member (x ∷ xs) none = absurd (none x (Contains-head x xs))

  -- if each element has one of two properties, some has the first or all have the second
  pub some_or_all : (P Q : X → Type 0) → ((x : X) → P x ⊎ Q x) → (xs : List X) → ((x : X) × Contains xs x × P x) ⊎ ((x : X) → Contains xs x → Q x)
  some_or_all P Q either [] = inr (λ x at. absurd (Contains-nil x at))
  some_or_all P Q either (x ∷ xs) = by (either x) (some_or_all P Q either xs)
    where
      step : Q x → ((y : X) → Contains xs y → Q y) → (y : X) → (x ≡ y) ⊎ Contains xs y → Q y
      step here all y (inl same) = rw (← same) here
      step here all y (inr at) = all y at

      by : P x ⊎ Q x → ((y : X) × Contains xs y × P y) ⊎ ((y : X) → Contains xs y → Q y) → ((y : X) × Contains (x ∷ xs) y × P y) ⊎ ((y : X) → Contains (x ∷ xs) y → Q y)
      by (inl here) rest = inl (x, Contains-head x xs, here)
      by (inr here) (inl found) = inl (found.0, Contains-tail x found.0 xs found.1, found.2)
      by (inr here) (inr all) = inr (λ y at. step here all y (Contains-cases x y xs at))
