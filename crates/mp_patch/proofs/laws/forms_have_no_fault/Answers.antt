use Rattle.mp_patch.proofs.Forms.Faults.{forms_have_no_fault}
use Rattle.mp_patch.proofs.laws.forms_have_no_fault.Goals as goal

pub returns : goal.returns
returns c = forms_have_no_fault
