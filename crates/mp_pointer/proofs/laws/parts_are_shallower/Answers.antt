use Rattle.mp_pointer.proofs.Parts.Depths.{part-depth}
use Rattle.mp_pointer.proofs.laws.parts_are_shallower.Goals as goal

pub returns : goal.returns
returns c = part-depth
