-- Causes in the order in which they are judged, and the first of them that holds.
use Rattle.std.specs.Prelude.{◌≡◌, ◌⊎◌, List, [], ◌∷◌}

-- each cause with when it holds
abbrev pub Causes : Type 0 → Type 1
Causes C = List (C × Type 0)

-- the cause holds, and none before it does
abbrev pub IsFirst : {C : Type 0} → C → Causes C → Type 0
IsFirst cause [] = ⊥
IsFirst cause ((c, Holds) ∷ later) = ((cause ≡ c) × Holds) ⊎ (¬ Holds × IsFirst cause later)
