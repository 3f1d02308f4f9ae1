use Rattle.mp_merge.proofs.Joins.Laws.{join_of_same}
use Rattle.mp_merge.proofs.Outcome.{outcome_of_same}
use Rattle.mp_merge.proofs.laws.only_members_count.Goals as goal

pub returns-clause-outcomes : goal.returns-clause-outcomes
returns-clause-outcomes c = outcome_of_same

pub returns-clause-joins : goal.returns-clause-joins
returns-clause-joins c = join_of_same
