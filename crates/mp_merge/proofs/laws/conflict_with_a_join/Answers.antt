use Rattle.mp_merge.proofs.Joins.Laws.{conflict_with_a_join}
use Rattle.mp_merge.proofs.laws.conflict_with_a_join.Goals as goal

pub returns : goal.returns
returns c = conflict_with_a_join
