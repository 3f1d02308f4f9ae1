use Rattle.mp_merge.proofs.Rewritings.Guards.{guarded_list, refused_guard_shows}
use Rattle.mp_merge.proofs.laws.guards_show.Goals as goal

pub returns-clause-passed : goal.returns-clause-passed
returns-clause-passed c = guarded_list

pub returns-clause-refused : goal.returns-clause-refused
returns-clause-refused c = refused_guard_shows c.operations_are_taken.ensures
