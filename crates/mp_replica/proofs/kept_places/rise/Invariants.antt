use Rattle.std.proofs.Common.{take}
use Rattle.mp_replica.specs.Private.Places.{EachPrecedes}
use Rattle.mp_replica.proofs.kept_places.rise.Given as goal

-- each of the places so far precedes the next
abbrev pub invariant-loop-number : goal.invariant-loop-number
invariant-loop-number l = EachPrecedes (take l.number l.places)
