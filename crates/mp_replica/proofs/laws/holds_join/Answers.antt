use Rattle.mp_replica.proofs.Taking as taking
use Rattle.mp_replica.proofs.laws.holds_join.Goals as goal

pub returns : goal.returns
returns c = taking.holds_join c.merge_laws.ensures
