use Rattle.mp_tree.proofs.Looks.Equal.{equal_looks}
use Rattle.mp_tree.proofs.laws.equal_looks.Goals as goal

pub returns : goal.returns
returns c = equal_looks
