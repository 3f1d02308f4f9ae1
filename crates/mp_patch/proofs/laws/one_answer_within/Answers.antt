use Rattle.mp_patch.proofs.Runs.Stops.{has_one_stop, runs_are_not_stopped, runs_within_or_stops}
use Rattle.mp_patch.proofs.laws.one_answer_within.Goals as goal

pub returns-clause-some : goal.returns-clause-some
returns-clause-some c = runs_within_or_stops

pub returns-clause-unstopped : goal.returns-clause-unstopped
returns-clause-unstopped c = runs_are_not_stopped

pub returns-clause-one_stop : goal.returns-clause-one_stop
returns-clause-one_stop c = has_one_stop
