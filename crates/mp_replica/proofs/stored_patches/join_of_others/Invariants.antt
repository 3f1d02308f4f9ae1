use Rattle.std.proofs.Common.{None}
use Rattle.mp_tree.proofs.Passed.{Passed}
use Rattle.mp_replica.proofs.Conflicting.{JoinsThose}
use Rattle.mp_replica.proofs.stored_patches.join_of_others.Given as goal

-- the join of those of the entries so far that are not among the conflicting
abbrev pub invariant-loop-identity : goal.invariant-loop-identity
invariant-loop-identity l = Passed l.patches.entries l.identity-iterator (λ passed. JoinsThose passed l.conflicting (record { joined = l.joined; pending = None }))
