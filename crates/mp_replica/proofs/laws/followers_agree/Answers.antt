use Rattle.mp_replica.proofs.Following as following
use Rattle.mp_replica.proofs.laws.followers_agree.Goals as goal

pub returns : goal.returns
returns c = following.followers_agree c.merge_laws.ensures
