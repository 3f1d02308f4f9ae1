use Rattle.mp_tree.proofs.Passed.{Passed}
use Rattle.mp_replica.specs.PatchLog.{stored_in}
use Rattle.mp_replica.specs.Private.Pairs.{NoneAmong}
use Rattle.mp_replica.proofs.pairs.first_pair.Given as goal

-- of the pairs so far none was chosen and clashes
abbrev pub invariant-loop-pair : goal.invariant-loop-pair
invariant-loop-pair l = Passed l.known.keys l.pair-iterator (λ passed. NoneAmong (stored_in l.patches.entries) passed l.chosen)
