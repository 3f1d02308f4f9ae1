use Rattle.std.proofs.Common.{take}
use Rattle.mp_pointer.specs.Private.Cuts.{IsPlain}
use Rattle.mp_pointer.proofs.spelling.is_plain.Given as goal

abbrev pub invariant-loop-byte : goal.invariant-loop-byte
invariant-loop-byte l = IsPlain (take l.byte-index l.byte-items)
