use Rattle.std.proofs.Common.{rules}
use Rattle.mp_replica.specs.declared.fault.LiveFault.TheVariants.{OutOfMemory}
use Rattle.mp_c.specs.OnHandles.{HasAdded, OfPatches, handle_fault}
use Rattle.mp_c.proofs.patches.mergejoin_patches_add.Goals as goal

pub returns-in_default : goal.returns-in_default
returns-in_default c =
    let is : OfPatches (HasAdded c.args.limit c.args.patch.now) c.args.patches.now.value (handle_fault OutOfMemory) c.held_or_none.new.patches.value = search rules in
    (handle_fault OutOfMemory, is, c.report_no_memory.ensures)
