use Rattle.mp_tree.proofs.Texts.Arrays.{arrays_read_back}
use Rattle.mp_tree.proofs.laws.arrays_read_back.Goals as goal

pub returns : goal.returns
returns c = arrays_read_back
