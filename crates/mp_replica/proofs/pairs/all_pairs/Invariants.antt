use Rattle.std.proofs.Common.{map, None}
use Rattle.mp_tree.proofs.Passed.{Passed}
use Rattle.mp_replica.specs.PatchLog.{seen, stored_in}
use Rattle.mp_replica.specs.Private.Pairs.{AreOf}
use Rattle.mp_replica.proofs.pairs.all_pairs.Given as goal

-- those of the pairs so far whose patches clash
abbrev pub invariant-loop-pair : goal.invariant-loop-pair
invariant-loop-pair l = Passed l.known.keys l.pair-iterator (λ passed. AreOf None (stored_in l.patches.entries) passed (map seen l.pairs.items))
