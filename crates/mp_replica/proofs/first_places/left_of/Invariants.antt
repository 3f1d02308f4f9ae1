use Rattle.std.proofs.Common.{◌≡◌, ◌+◌, take}
use Rattle.mp_merge.specs.Within.{places_weight}
use Rattle.mp_replica.proofs.first_places.left_of.Given as goal

-- what was taken from the budget so far
abbrev pub invariant-loop-place : goal.invariant-loop-place
invariant-loop-place l = l.left + places_weight (take l.place-index l.places) ≡ l.budget
