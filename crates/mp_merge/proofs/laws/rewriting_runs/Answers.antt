use Rattle.mp_merge.proofs.Rewritings.AnyOrder.{rewriting_runs}
use Rattle.mp_merge.proofs.laws.rewriting_runs.Goals as goal

pub returns : goal.returns
returns c = rewriting_runs c.operations_are_taken.ensures
