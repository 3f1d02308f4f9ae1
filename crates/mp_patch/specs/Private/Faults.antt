-- A refusal as the error of a patch. Only private clauses cite it.
use Rattle.std.specs.Prelude.{ℕ}
use Rattle.mp_patch.specs.declared.fault.ApplyWithinFault.{ApplyWithinFault}
use Rattle.mp_patch.specs.declared.fault.ApplyWithinFault.TheVariants as within_fault
use Rattle.mp_patch.specs.declared.fault.Cause.{Cause}
use Rattle.mp_patch.specs.declared.fault.FormCause.{FormCause}
use Rattle.mp_patch.specs.declared.fault.FormFault.{FormFault}
use Rattle.mp_patch.specs.declared.fault.FormFault.TheVariants as form_fault
use Rattle.mp_patch.specs.declared.fault.Refusal.{Refusal}
use Rattle.mp_patch.specs.declared.fault.Refusal.TheVariants.{By, OutOfMemory}

abbrev pub fault_of_operation : ℕ → Refusal Cause → ApplyWithinFault
fault_of_operation number (By cause) = within_fault.Refused number cause
fault_of_operation number OutOfMemory = within_fault.OutOfMemory

abbrev pub fault_of_element : ℕ → Refusal FormCause → FormFault
fault_of_element number (By cause) = form_fault.Form number cause
fault_of_element number OutOfMemory = form_fault.OutOfMemory
