use Rattle.mp_patch.proofs.Runs.SomeRun.{runs_or_is_refused}
use Rattle.mp_patch.proofs.laws.runs_or_is_refused.Goals as goal

pub returns : goal.returns
returns c = runs_or_is_refused
