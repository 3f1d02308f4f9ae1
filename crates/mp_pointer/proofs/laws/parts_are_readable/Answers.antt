use Rattle.mp_pointer.proofs.Parts.Readable.{parts_are_readable}
use Rattle.mp_pointer.proofs.laws.parts_are_readable.Goals as goal

pub returns : goal.returns
returns c = parts_are_readable
