use Rattle.mp_replica.proofs.Taking as taking
use Rattle.mp_replica.proofs.laws.takers_agree.Goals as goal

pub returns : goal.returns
returns c = taking.takers_agree c.merge_laws.ensures
