-- What a budget takes of what a walk adds. Only private clauses cite it.
use Rattle.std.specs.Prelude.{◌≡◌, ◌≢◌, ◌-◌, ℕ, List, [], ◌∷◌, if◌then◌else◌, Option, None, Some, nat_lt}
use Rattle.mp_patch.specs.Work.{no_limit}
use Rattle.mp_merge.specs.declared.budget.Budget.{Budget}
use Rattle.mp_merge.specs.declared.budget.Budget.TheVariants.{Unlimited, Left, Over}

-- what a call with that limit may make
abbrev pub IsBudget : ℕ → Budget → Type 0
IsBudget limit Unlimited = limit ≡ no_limit
IsBudget limit (Left budget) = (limit ≢ no_limit) × (budget ≡ limit)
IsBudget limit Over = ⊥

-- what is left of a budget after that weight
abbrev pub left_after : ℕ → Budget → Budget
left_after w Unlimited = Unlimited
left_after w (Left budget) = if nat_lt budget w then Over else Left (budget - w)
left_after w Over = Over

-- what a call says that is left: nothing if something weighs more than the budget
abbrev pub budget_of : Option ℕ → Budget
budget_of None = Over
budget_of (Some left) = Left left

-- element by element, from the first
abbrev pub add_each : {S X : Type 0} → (S → X → S) → S → List X → S
add_each add s [] = s
add_each add s (x ∷ xs) = add_each add (add s x) xs

-- what there is with one more, if something is left
abbrev pub if_left : {S : Type 0} → S → S → Budget → S × Budget
if_left s more Unlimited = (more, Unlimited)
if_left s more (Left left) = (more, Left left)
if_left s more Over = (s, Over)

-- an element is added if the budget takes it, and none after one that it did not take
abbrev pub admit : {S X : Type 0} → (S → X → S) → (X → ℕ) → S × Budget → X → S × Budget
admit add weigh admitted x = if_left admitted.0 (add admitted.0 x) (left_after (weigh x) admitted.1)
