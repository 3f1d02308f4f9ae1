use Rattle.mp_tree.proofs.Valued.Meaning.{IsDocument-value}
use Rattle.mp_tree.proofs.node.ValueNode.kind.Goals as goal

pub returns : goal.returns
returns c = record { documents = IsDocument-value; value = c.top.ensures }
