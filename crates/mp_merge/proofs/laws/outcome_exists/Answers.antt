use Rattle.mp_merge.proofs.Clashes.ReportedPair.{outcome_exists}
use Rattle.mp_merge.proofs.laws.outcome_exists.Goals as goal

pub returns : goal.returns
returns c = outcome_exists
