use Rattle.std.proofs.Common.{rules}
use Rattle.mp_tree.proofs.borrowing.items_mut.Goals as goal

pub returns-in-Items : goal.returns-in-Items
returns-in-Items c = search rules
