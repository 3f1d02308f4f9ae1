use Rattle.std.proofs.Common.{refl}
use Rattle.mp_tree.proofs.Valued.Meaning.{IsDocument-value, value-Array}
use Rattle.mp_tree.proofs.node.ValueNode.items_mut.Goals as goal

pub returns : goal.returns
returns c = (refl, record { writes_back = tt; value = c.value_items_mut.ensures.value; made = value-Array; documents = IsDocument-value })
