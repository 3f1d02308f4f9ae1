use Rattle.mp_merge.proofs.Joins.Laws.{join_in_parts}
use Rattle.mp_merge.proofs.laws.join_in_parts.Goals as goal

pub returns : goal.returns
returns c = join_in_parts
