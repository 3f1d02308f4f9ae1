-- What stops operations within a limit, as it is reported.
use Rattle.std.proofs.Common.{ℕ, List}
use Rattle.mp_tree.specs.Document.{Document}
use Rattle.mp_patch.specs.Operation.{Operation}
use Rattle.mp_patch.specs.Within.{IsApplyWithinFault}
use Rattle.mp_patch.specs.declared.fault.ApplyWithinFault.{ApplyWithinFault}
use Rattle.mp_patch.specs.declared.fault.ApplyWithinFault.TheVariants as stop
use Rattle.mp_texts.specs.Faults.{IsRunFault, texts_fault_of_apply_within}

pub stop_reported : (limit : ℕ) (d : Document) (operations : List Operation) (fault : ApplyWithinFault) → IsApplyWithinFault limit fault d operations → IsRunFault limit (texts_fault_of_apply_within fault) d operations
stop_reported limit d operations (stop.Refused k cause) stopped = stopped
stop_reported limit d operations (stop.TooLarge k) stopped = stopped
stop_reported limit d operations stop.OutOfMemory stopped = tt
