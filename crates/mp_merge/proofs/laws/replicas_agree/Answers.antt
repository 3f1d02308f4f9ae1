use Rattle.mp_merge.proofs.Outcome.{replicas_agree}
use Rattle.mp_merge.proofs.laws.replicas_agree.Goals as goal

pub returns : goal.returns
returns c = replicas_agree
