use Rattle.mp_merge.proofs.Outcome.{join_gives_outcome}
use Rattle.mp_merge.proofs.laws.join_gives_outcome.Goals as goal

pub returns : goal.returns
returns c = join_gives_outcome
