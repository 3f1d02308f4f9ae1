use Rattle.mp_merge.proofs.Rewritings.AnyOrder.{edits_in_any_order}
use Rattle.mp_merge.proofs.laws.edits_in_any_order.Goals as goal

pub returns : goal.returns
returns c = edits_in_any_order c.operations_are_taken.ensures
