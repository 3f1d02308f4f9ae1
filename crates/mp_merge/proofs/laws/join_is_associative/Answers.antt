use Rattle.mp_merge.proofs.Joins.Laws.{join_is_associative}
use Rattle.mp_merge.proofs.laws.join_is_associative.Goals as goal

pub returns : goal.returns
returns c = join_is_associative
