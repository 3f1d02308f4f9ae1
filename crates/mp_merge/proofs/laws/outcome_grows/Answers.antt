use Rattle.mp_merge.proofs.Application.InTurn.{outcome_grows, outcome_of_none}
use Rattle.mp_merge.proofs.laws.outcome_grows.Goals as goal

pub returns-clause-none : goal.returns-clause-none
returns-clause-none c = outcome_of_none

pub returns-clause-more : goal.returns-clause-more
returns-clause-more c = outcome_grows
