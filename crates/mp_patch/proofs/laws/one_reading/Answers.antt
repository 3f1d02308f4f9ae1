use Rattle.mp_patch.proofs.Forms.Laws.{has_one_reading}
use Rattle.mp_patch.proofs.laws.one_reading.Goals as goal

pub returns : goal.returns
returns c = has_one_reading
