use Rattle.mp_merge.proofs.Joins.Laws.{join_grows}
use Rattle.mp_merge.proofs.laws.join_grows.Goals as goal

pub returns : goal.returns
returns c = join_grows
