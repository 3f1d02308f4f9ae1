use Rattle.mp_tree.proofs.Valued.Meaning.{value-Object}
use Rattle.mp_tree.proofs.node.ValueNode.from_members.Goals as goal

pub returns : goal.returns
returns c = value-Object c.args.entries
