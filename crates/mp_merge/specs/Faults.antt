-- What is reported of a call that was refused within `converge`: out of memory is one error, from whichever call it comes.
use Rattle.std.specs.Prelude.{Vec}
use Rattle.std.specs.declared.alloc.Global.{Global}
use Rattle.mp_patch.specs.declared.fault.ApplyFault.{ApplyFault}
use Rattle.mp_patch.specs.declared.fault.ApplyFault.TheVariants.{Refused}
use Rattle.mp_merge.specs.declared.fault.ConvergeFault.{ConvergeFault}
use Rattle.mp_merge.specs.declared.fault.ConvergeFault.TheVariants.{Lists, Patch, OutOfMemory}
use Rattle.mp_pointer.specs.declared.pointer.Pointer.{Pointer}
use Rattle.mp_merge.specs.declared.fault.ListFault.{ListFault}
use Rattle.mp_merge.specs.declared.fault.ListFault.TheVariants.{NoPatches, ConflictOf}

abbrev pub converge_fault_of_list : ListFault (Vec Pointer Global) → ConvergeFault
converge_fault_of_list NoPatches = Lists NoPatches
converge_fault_of_list (ConflictOf first second places) = Lists (ConflictOf first second places)
converge_fault_of_list ListFault.OutOfMemory = OutOfMemory

abbrev pub converge_fault_of_patch : ApplyFault → ConvergeFault
converge_fault_of_patch (Refused op cause) = Patch op cause
converge_fault_of_patch ApplyFault.OutOfMemory = OutOfMemory
