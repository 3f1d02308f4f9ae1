use Rattle.mp_pointer.proofs.Parts.Kinds.{equals_by_part}
use Rattle.mp_pointer.proofs.laws.equal_by_part.Goals as goal

pub returns : goal.returns
returns c = equals_by_part
