use Rattle.mp_merge.proofs.Clashes.ReportedPair.{compatible_have_none, compatible_or_reported, one_reported_pair}
use Rattle.mp_merge.proofs.laws.reported_pair.Goals as goal

pub returns-clause-exists : goal.returns-clause-exists
returns-clause-exists c = compatible_or_reported

pub returns-clause-none : goal.returns-clause-none
returns-clause-none c = compatible_have_none

pub returns-clause-one : goal.returns-clause-one
returns-clause-one c = one_reported_pair
