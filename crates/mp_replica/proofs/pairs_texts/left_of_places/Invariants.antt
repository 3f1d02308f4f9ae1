use Rattle.std.proofs.Common.{◌≡◌, ◌+◌, take}
use Rattle.mp_replica.proofs.PairTexts.{places_spelled}
use Rattle.mp_replica.proofs.pairs_texts.left_of_places.Given as goal

-- what is left after the places so far, and the bracket before them
abbrev pub invariant-loop-place : goal.invariant-loop-place
invariant-loop-place l = l.left + (1 + places_spelled (take l.place-index l.places)) ≡ l.budget
