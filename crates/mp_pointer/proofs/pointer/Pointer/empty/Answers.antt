use Rattle.std.proofs.Common.{rules}
use Rattle.mp_pointer.proofs.pointer.Pointer.empty.Goals as goal

pub returns : goal.returns
returns c = search rules
