use Rattle.mp_merge.proofs.Outcome.{application_is_outcome}
use Rattle.mp_merge.proofs.laws.application_is_outcome.Goals as goal

pub returns : goal.returns
returns c = application_is_outcome
