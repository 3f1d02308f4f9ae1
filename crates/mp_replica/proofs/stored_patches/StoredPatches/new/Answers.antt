use Rattle.std.proofs.Common.{None, refl}
use Rattle.mp_replica.proofs.Conflicting.{none_known}
use Rattle.mp_replica.proofs.stored_patches.StoredPatches.new.Goals as goal

pub invariant_of-result : goal.invariant_of-result
invariant_of-result c =
    none_known c.merge_laws.ensures c.new.result.entries c.new-2.result.items c.new-3.result (record { joined = None; pending = None }) c.new.ensures.empty c.new-2.ensures.items c.new-3.ensures.empty refl refl
