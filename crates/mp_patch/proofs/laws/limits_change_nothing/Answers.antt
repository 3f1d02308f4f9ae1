use Rattle.mp_patch.proofs.Runs.Within.{limits_change_nothing}
use Rattle.mp_patch.proofs.laws.limits_change_nothing.Goals as goal

pub returns : goal.returns
returns c = limits_change_nothing
