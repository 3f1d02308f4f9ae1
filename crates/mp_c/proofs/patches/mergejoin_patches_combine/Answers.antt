use Rattle.std.proofs.Common.{rules}
use Rattle.mp_replica.specs.declared.fault.LiveFault.TheVariants.{OutOfMemory}
use Rattle.mp_c.specs.OnHandles.{HasCombined, handle_fault, patches_in}
use Rattle.mp_c.proofs.patches.mergejoin_patches_combine.Goals as goal

pub returns-in_default : goal.returns-in_default
returns-in_default c =
    let other = patches_in c.args.other.now.value in
    let is : HasCombined c.args.limit (patches_in c.args.patches.now.value) other (handle_fault OutOfMemory) (patches_in c.held_or_none.new.patches.value) other = search rules in
    (handle_fault OutOfMemory, is, c.report_no_memory.ensures)
