use Rattle.mp_merge.proofs.Clashes.Conflicts.{clashes_exist, empty_if_compatible, one_list}
use Rattle.mp_merge.proofs.laws.all_conflicts.Goals as goal

pub returns-clause-exist : goal.returns-clause-exist
returns-clause-exist c = clashes_exist

pub returns-clause-one : goal.returns-clause-one
returns-clause-one c = one_list

pub returns-clause-empty : goal.returns-clause-empty
returns-clause-empty c = empty_if_compatible
