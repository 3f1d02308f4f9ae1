use Rattle.mp_merge.proofs.Outcome.{one_outcome}
use Rattle.mp_merge.proofs.laws.one_outcome.Goals as goal

pub returns : goal.returns
returns c = one_outcome
