use Rattle.mp_merge.proofs.Joins.Laws.{join_is_idempotent}
use Rattle.mp_merge.proofs.laws.join_is_idempotent.Goals as goal

pub returns : goal.returns
returns c = join_is_idempotent
