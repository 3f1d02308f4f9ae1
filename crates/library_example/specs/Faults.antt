-- The error of a call as that of `show`: out of memory is one variant, whichever call it is from.
use Rattle.std.specs.Prelude.{Vec}
use Rattle.std.specs.declared.alloc.Global.{Global}
use Rattle.mp_tree.specs.declared.fault.DocsFault.{DocsFault}
use Rattle.mp_tree.specs.declared.fault.DocsFault.TheVariants as docs
use Rattle.mp_tree.specs.declared.fault.ReadFault.{ReadFault}
use Rattle.mp_tree.specs.declared.fault.ReadFault.TheVariants as read
use Rattle.mp_pointer.specs.declared.pointer.Pointer.{Pointer}
use Rattle.mp_merge.specs.declared.fault.ListFault.{ListFault}
use Rattle.mp_merge.specs.declared.fault.ListFault.TheVariants as list
use Rattle.library_example.specs.declared.fault.ShowFault.{ShowFault}
use Rattle.library_example.specs.declared.fault.ShowFault.TheVariants.{Start, Patches, Replay, OutOfMemory}

abbrev pub fault_of_start : ReadFault → ShowFault
fault_of_start read.NotJson = Start read.NotJson
fault_of_start read.NotWhole = Start read.NotWhole
fault_of_start read.TooDeep = Start read.TooDeep
fault_of_start read.OutOfMemory = OutOfMemory

abbrev pub fault_of_patches : DocsFault → ShowFault
fault_of_patches docs.NotJson = Patches docs.NotJson
fault_of_patches docs.NotWhole = Patches docs.NotWhole
fault_of_patches docs.NotAnArray = Patches docs.NotAnArray
fault_of_patches docs.OutOfMemory = OutOfMemory

abbrev pub fault_of_replay : ListFault (Vec Pointer Global) → ShowFault
fault_of_replay list.NoPatches = Replay list.NoPatches
fault_of_replay (list.ConflictOf first second places) = Replay (list.ConflictOf first second places)
fault_of_replay list.OutOfMemory = OutOfMemory
