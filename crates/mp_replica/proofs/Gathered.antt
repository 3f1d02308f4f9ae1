-- What is gathered from the elements that a walk has passed: one gives something, another nothing.
use Rattle.std.proofs.Common.{◌≡◌, ◌↔◌, inl, inr, List, [], ◌∷◌, ◌++◌, sym, subst}
use Rattle.std.proofs.lemmas.List.Elements.{Contains-append_left, Contains-push, Contains-push_cases}
use Rattle.std.specs.List.{Contains}
use Rattle.mp_tree.proofs.Facts.{Contains-nil}

module _ {X K : Type 0} (Gives : X → K → Type 0) where
  abbrev pub IsGathered : List X → K → Type 0
  IsGathered passed k = (x : X) × Contains passed x × Gives x k

  abbrev pub AreGathered : List X → List K → Type 0
  AreGathered passed found = (k : K) → Contains found k ↔ IsGathered passed k

  pub none_gathered : AreGathered [] []
  none_gathered k = (λ at. absurd (Contains-nil k at), λ is. absurd (Contains-nil is.0 is.1))

  module _ (passed : List X) (x : X) (found : List K) (are : AreGathered passed found) where
    still_gathered : (k : K) → Contains found k → IsGathered (passed ++ x ∷ []) k
    still_gathered k at = let is = (are k).0 at in (is.0, Contains-append_left passed (x ∷ []) is.0 is.1, is.2)

    -- the next gives this alone
    pub one_gathered : (k : K) → Gives x k → ((l : K) → Gives x l → k ≡ l) → AreGathered (passed ++ x ∷ []) (found ++ k ∷ [])
    one_gathered k gives alone l = (
      λ at. elim (Contains-push_cases found k l at) [
        | inl before ↦ still_gathered l before
        | inr same ↦ (x, Contains-push passed x, subst (Gives x) same gives)
      ],
      λ is. elim (Contains-push_cases passed x is.0 is.1) [
        | inl before ↦ Contains-append_left found (k ∷ []) l ((are l).1 (is.0, before, is.2))
        | inr same ↦ subst (Contains (found ++ k ∷ [])) (alone l (subst (λ y. Gives y l) (sym same) is.2)) (Contains-push found k)
      ],
    )

    -- or nothing
    pub none_more_gathered : ((l : K) → ¬ Gives x l) → AreGathered (passed ++ x ∷ []) found
    none_more_gathered none l = (
      λ at. still_gathered l at,
      λ is. elim (Contains-push_cases passed x is.0 is.1) [
        | inl before ↦ (are l).1 (is.0, before, is.2)
        | inr same ↦ absurd (none l (subst (λ y. Gives y l) (sym same) is.2))
      ],
    )
