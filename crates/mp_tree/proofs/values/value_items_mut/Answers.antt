use Rattle.std.proofs.Common.{rules}
use Rattle.mp_tree.proofs.values.value_items_mut.Goals as goal

pub returns-in-Array : goal.returns-in-Array
returns-in-Array c = search rules
