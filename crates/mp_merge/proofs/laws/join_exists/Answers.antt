use Rattle.mp_merge.proofs.Joins.Laws.{join_exists}
use Rattle.mp_merge.proofs.laws.join_exists.Goals as goal

pub returns : goal.returns
returns c = join_exists
