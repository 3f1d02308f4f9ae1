use Rattle.std.proofs.Common.{length, string_bytes, ap, arith}
use Rattle.mp_pointer.proofs.Spellings.Kept.{length-cut}
use Rattle.mp_pointer.proofs.pointer.Pointer.len.Goals as goal

pub returns : goal.returns
returns c = omega (arith, c.len.ensures, length-cut 0 c.self.inside.ends.items (string_bytes c.self.inside.text), ap length c.self.view_is)
