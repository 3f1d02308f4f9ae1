use Rattle.mp_replica.proofs.Following as following
use Rattle.mp_replica.proofs.laws.follows_same.Goals as goal

pub returns : goal.returns
returns c = following.follows_same c.merge_laws.ensures
