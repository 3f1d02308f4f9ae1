use Rattle.mp_tree.specs.View.{document}
use Rattle.mp_tree.proofs.Passed.{Passed}
use Rattle.mp_replica.proofs.Conflicting.{Conflicted}
use Rattle.mp_replica.proofs.Gathered.{AreGathered}
use Rattle.mp_replica.proofs.stored_patches.conflicting_with.Given as goal

-- those of the entries so far that conflict
abbrev pub invariant-loop-other : goal.invariant-loop-other
invariant-loop-other l = Passed l.patches.entries l.other-iterator (λ passed. AreGathered (Conflicted (document l.patch) l.known) passed l.found.items)
