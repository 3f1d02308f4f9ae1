use Rattle.mp_patch.proofs.Runs.Laws.{runs_unrefused}
use Rattle.mp_patch.proofs.laws.runs_are_not_refused.Goals as goal

pub returns : goal.returns
returns c = runs_unrefused
