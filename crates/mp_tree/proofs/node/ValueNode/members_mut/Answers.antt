use Rattle.std.proofs.Common.{refl}
use Rattle.mp_tree.proofs.Valued.Meaning.{IsDocument-value, value-Object}
use Rattle.mp_tree.proofs.node.ValueNode.members_mut.Goals as goal

pub returns : goal.returns
returns c = (refl, record { writes_back = tt; value = c.value_members_mut.ensures.value; made = value-Object; documents = IsDocument-value })
