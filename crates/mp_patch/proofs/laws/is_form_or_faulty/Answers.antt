use Rattle.mp_patch.proofs.Forms.SomeForm.{is_form_or_faulty}
use Rattle.mp_patch.proofs.laws.is_form_or_faulty.Goals as goal

pub returns : goal.returns
returns c = is_form_or_faulty
