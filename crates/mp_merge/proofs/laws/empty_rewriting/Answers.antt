use Rattle.mp_merge.proofs.Rewritings.Unique.{empty_rewriting}
use Rattle.mp_merge.proofs.laws.empty_rewriting.Goals as goal

pub returns : goal.returns
returns c = empty_rewriting
