use Rattle.mp_tree.proofs.Valued.Meaning.{value-Object}
use Rattle.mp_tree.proofs.walked.ValueCopyOf.from_members.Goals as goal

pub returns : goal.returns
returns c = value-Object c.args.entries
