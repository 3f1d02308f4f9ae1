-- What a walk down a value finds of it. Only private clauses cite it.
use Rattle.std.specs.Prelude.{◌≡◌, ◌≤◌, ◌<◌, ℕ, zero, Bool, false, Option, None, Some}
use Rattle.mp_tree.specs.declared.value_walks.Reading.{Reading}
use Rattle.mp_tree.specs.declared.value_walks.Reading.TheVariants.{Fits, TooDeep, NotWhole}

-- what is read, if all numbers are whole, is what is meant, and it is as shallow as asked or not
abbrev pub IsReading : {X : Type 0} → Reading → Option X → X → ℕ → ℕ → Type 0
IsReading Fits read meant depth limit = (read ≡ Some meant) × (depth ≤ limit)
IsReading TooDeep read meant depth limit = (read ≡ Some meant) × (limit < depth)
IsReading NotWhole read meant depth limit = read ≡ None

-- of an array or an object, from that of its parts within one level less
abbrev pub reading_around : Reading → ℕ → Reading
reading_around Fits zero = TooDeep
reading_around parts limit = parts

-- a mark that something is too deep, before and after: it is never taken away, and where there is none what was read is within the levels
abbrev pub StaysShallow : Bool → Bool → ℕ → ℕ → Type 0
StaysShallow before after depth levels = after ≡ false → (before ≡ false) × (depth ≤ levels)
