use Rattle.mp_tree.proofs.Documents.Wholes.{equal_numbers}
use Rattle.mp_tree.proofs.laws.equal_numbers.Goals as goal

pub returns : goal.returns
returns c = equal_numbers
