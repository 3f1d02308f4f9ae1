use Rattle.mp_patch.proofs.Forms.Laws.{shapes_are_forms}
use Rattle.mp_patch.proofs.laws.shapes_are_forms.Goals as goal

pub returns : goal.returns
returns c = shapes_are_forms
