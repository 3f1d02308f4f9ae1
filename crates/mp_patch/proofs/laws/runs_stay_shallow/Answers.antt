use Rattle.mp_patch.proofs.Runs.Laws.{stays_shallow}
use Rattle.mp_patch.proofs.laws.runs_stay_shallow.Goals as goal

pub returns : goal.returns
returns c = stays_shallow
