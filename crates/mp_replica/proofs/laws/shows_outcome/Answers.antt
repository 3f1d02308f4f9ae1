use Rattle.mp_replica.proofs.Following as following
use Rattle.mp_replica.proofs.laws.shows_outcome.Goals as goal

pub returns-clause-outcome : goal.returns-clause-outcome
returns-clause-outcome c = following.shows_outcome c.text_laws.ensures.merging

pub returns-clause-readable : goal.returns-clause-readable
returns-clause-readable c = following.shows_readable c.text_laws.ensures
