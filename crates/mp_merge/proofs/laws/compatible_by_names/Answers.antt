use Rattle.mp_merge.proofs.Joins.ByName.{compatible_by_names, compatible_if_equal}
use Rattle.mp_merge.proofs.laws.compatible_by_names.Goals as goal

pub returns-clause-objects : goal.returns-clause-objects
returns-clause-objects c = compatible_by_names

pub returns-clause-others : goal.returns-clause-others
returns-clause-others c = compatible_if_equal
