use Rattle.mp_merge.proofs.Rewritings.Unique.{one_rewriting}
use Rattle.mp_merge.proofs.laws.one_rewriting.Goals as goal

pub returns : goal.returns
returns c = one_rewriting
