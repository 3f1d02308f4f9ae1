use Rattle.mp_merge.proofs.Application.Resumption.{applied_once, merges_into_null, tries_resume}
use Rattle.mp_merge.proofs.laws.merging_again.Goals as goal

pub returns-clause-into_null : goal.returns-clause-into_null
returns-clause-into_null c = merges_into_null

pub returns-clause-twice : goal.returns-clause-twice
returns-clause-twice c = applied_once

pub returns-clause-tries : goal.returns-clause-tries
returns-clause-tries c = tries_resume
