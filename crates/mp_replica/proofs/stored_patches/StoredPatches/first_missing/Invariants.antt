use Rattle.std.proofs.Common.{take}
use Rattle.mp_replica.specs.PatchLog.{HaveArrived, stored_in}
use Rattle.mp_replica.proofs.stored_patches.StoredPatches.first_missing.Given as goal

abbrev pub invariant-loop-identity : goal.invariant-loop-identity
invariant-loop-identity l = HaveArrived (stored_in l.self) (take l.identity-index l.chosen)
