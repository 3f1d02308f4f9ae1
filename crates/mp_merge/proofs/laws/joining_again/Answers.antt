use Rattle.mp_merge.proofs.Joins.Laws.{join_absorbs, join_tries_resume}
use Rattle.mp_merge.proofs.Joins.Union.{join-one}
use Rattle.mp_merge.proofs.laws.joining_again.Goals as goal

pub returns-clause-one : goal.returns-clause-one
returns-clause-one c = join-one

pub returns-clause-absorbs : goal.returns-clause-absorbs
returns-clause-absorbs c = join_absorbs

pub returns-clause-tries : goal.returns-clause-tries
returns-clause-tries c = join_tries_resume
