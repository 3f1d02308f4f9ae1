use Rattle.mp_replica.proofs.Taking as taking
use Rattle.mp_replica.proofs.laws.taken_same.Goals as goal

pub returns : goal.returns
returns c = taking.taken_same c.merge_laws.ensures
