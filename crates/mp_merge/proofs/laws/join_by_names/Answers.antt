use Rattle.mp_merge.proofs.Joins.ByName.{join_by_names, join_of_equal}
use Rattle.mp_merge.proofs.laws.join_by_names.Goals as goal

pub returns-clause-objects : goal.returns-clause-objects
returns-clause-objects c = join_by_names

pub returns-clause-others : goal.returns-clause-others
returns-clause-others c = join_of_equal
