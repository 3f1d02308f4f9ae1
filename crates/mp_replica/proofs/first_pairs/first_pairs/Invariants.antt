use Rattle.std.proofs.Common.{map}
use Rattle.mp_tree.proofs.Passed.{Passed}
use Rattle.mp_replica.specs.PatchLog.{seen, stored_in}
use Rattle.mp_replica.specs.Private.Pairs.{Lists}
use Rattle.mp_replica.proofs.first_pairs.first_pairs.Given as goal

-- what is listed of the pairs so far
abbrev pub invariant-loop-pair : goal.invariant-loop-pair
invariant-loop-pair l = Passed l.known.keys l.pair-iterator (λ passed. Lists l.of (stored_in l.patches.entries) l.limit l.known.keys passed (map seen l.found.pairs.items) l.left l.found.more)
