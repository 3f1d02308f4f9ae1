use Rattle.mp_merge.proofs.Joins.Laws.{same_join}
use Rattle.mp_merge.proofs.laws.one_join.Goals as goal

pub returns : goal.returns
returns c = same_join
