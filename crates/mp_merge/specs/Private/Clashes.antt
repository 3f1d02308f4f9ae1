-- What the walk over two patches adds to a list of paths. Only private clauses cite it.
use Rattle.std.specs.Prelude.{◌≡◌, ◌≢◌, ◌⊎◌, ◌+◌, ◌-◌, ◌^◌, ℕ, min, List, [], ◌∷◌, ◌++◌, Option, None, Some, slice_get}
use Rattle.mp_tree.specs.Document.{Document, object, Members, no_members, member, find}
use Rattle.mp_tree.specs.Look.{Path}
use Rattle.mp_pointer.specs.Weight.{place_weight}
use Rattle.mp_merge.specs.Lists.{CompatibleBelow, IsClashBelow}
use Rattle.mp_merge.specs.Private.Budgets.{add_each, admit}
use Rattle.mp_merge.specs.Private.Growth.{GrewBy}
use Rattle.mp_merge.specs.Within.{AreFirstOf}
use Rattle.mp_merge.specs.declared.budget.Budget.{Budget}
use Rattle.mp_merge.specs.declared.comparing.Conflicts.{Conflicts}
use Rattle.mp_merge.specs.declared.comparing.Found.{Found}

-- at the path s: no clash if the two are equal, else that one alone
abbrev pub IsOneClash : Path → Document → Document → List Path → Type 0
IsOneClash s p q places = ((p ≡ q) × (places ≡ [])) ⊎ ((p ≢ q) × (places ≡ s ∷ []))

-- the clashes at s and below, if the one patch has p and the other q, which may be absent
abbrev mutual
  pub WalksClashes : Path → Document → Option Document → List Path → Type 0
  WalksClashes s p None places = places ≡ []
  WalksClashes s (object ps) (Some (object qs)) places = WalksMembers s ps qs places
  WalksClashes s p (Some q) places = IsOneClash s p q places

  -- name by name, if both have objects
  pub WalksMembers : Path → Members → Members → List Path → Type 0
  WalksMembers s no_members qs places = places ≡ []
  WalksMembers s (member n p ps) qs places =
      (first : List Path) × (rest : List Path) × (places ≡ first ++ rest)
      × WalksClashes (s ++ n ∷ []) p (find n qs) first × WalksMembers s ps qs rest

-- ---- what is reported of the paths

-- the paths that the budget took, what is left of it, and how many paths the walk has passed
abbrev pub Reported : Type 0
Reported = (List Path × Budget) × ℕ

abbrev pub reported_of : Found → Reported
reported_of found = ((found.places.items, found.budget), found.total)

abbrev pub with_path : List Path → Path → List Path
with_path places w = places ++ w ∷ []

-- one more, as far as 64 bits count
abbrev pub counted : ℕ → ℕ
counted total = min (total + 1) (2 ^ 64 - 1)

abbrev pub report : Reported → Path → Reported
report reported w = (admit with_path place_weight reported.0 w, counted reported.1)

-- the walk has passed paths of which that holds
abbrev pub Passed : Found → Found → (List Path → Type 0) → Type 0
Passed old new Holds = GrewBy (add_each report) (reported_of old) (reported_of new) Holds

-- ---- lists of patches

-- patch number k is compatible with those before it
abbrev pub IsFreeBelow : List Document → ℕ → Type 0
IsFreeBelow patches k = (q : Document) → slice_get patches k ≡ Some q → CompatibleBelow patches k q

-- the first patch that conflicts with number `second`, and what is reported of their conflicts
abbrev pub IsReportedBelow : ℕ → List Document → ℕ → ℕ → Conflicts → Type 0
IsReportedBelow limit patches first second conflicts =
    (all : List Path) × IsClashBelow patches first second all
    × AreFirstOf limit all conflicts.places.items conflicts.total
