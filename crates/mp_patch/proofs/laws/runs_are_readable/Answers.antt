use Rattle.mp_patch.proofs.Runs.Readable.{runs_are_readable}
use Rattle.mp_patch.proofs.laws.runs_are_readable.Goals as goal

pub returns : goal.returns
returns c = runs_are_readable
