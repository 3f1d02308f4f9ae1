use Rattle.mp_tree.proofs.Valued.Meaning.{value_of_map}
use Rattle.mp_tree.proofs.walked.ValueWalked.top.Goals as goal

pub returns-in-Object : goal.returns-in-Object
returns-in-Object c = value_of_map c.in-Object.entries c.in-Object.is
