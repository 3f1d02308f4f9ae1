use Rattle.mp_replica.proofs.Alike.{logs_are_alike}
use Rattle.mp_replica.proofs.laws.logs_are_alike.Goals as goal

pub returns : goal.returns
returns c = logs_are_alike
