use Rattle.mp_patch.proofs.Runs.Laws.{has_one_end}
use Rattle.mp_patch.proofs.laws.one_end.Goals as goal

pub returns : goal.returns
returns c = has_one_end
