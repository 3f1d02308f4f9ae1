use Rattle.std.proofs.Common.{◌↔◌, drop}
use Rattle.mp_replica.specs.Private.Places.{Precedes}
use Rattle.mp_replica.proofs.kept_places.precedes.Given as goal

-- the names so far are equal, so the others decide
abbrev pub invariant-loop-number : goal.invariant-loop-number
invariant-loop-number l = Precedes l.place l.next ↔ Precedes (drop l.number l.place) (drop l.number l.next)
