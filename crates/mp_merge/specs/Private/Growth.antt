-- What a walk has added to what was there. Only private clauses cite it.
use Rattle.std.specs.Prelude.{◌≡◌, List}

-- to what was there, elements were added of which that holds
abbrev pub GrewBy : {S X : Type 0} → (S → List X → S) → S → S → (List X → Type 0) → Type 0
GrewBy {S} {X} add old new Holds = (added : List X) × (new ≡ add old added) × Holds added
