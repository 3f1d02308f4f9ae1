use Rattle.mp_merge.proofs.Joins.Laws.{empty_has_no_join}
use Rattle.mp_merge.proofs.laws.empty_has_no_join.Goals as goal

pub returns : goal.returns
returns c = empty_has_no_join
