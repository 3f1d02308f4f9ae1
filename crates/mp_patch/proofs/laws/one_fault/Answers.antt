use Rattle.mp_patch.proofs.Forms.Faults.{has_one_fault}
use Rattle.mp_patch.proofs.laws.one_fault.Goals as goal

pub returns : goal.returns
returns c = has_one_fault
