use Rattle.std.proofs.Common.{◌≡◌, ◌+◌, drop, length}
use Rattle.mp_pointer.specs.Spelling.{escape}
use Rattle.mp_pointer.proofs.spelling.left_of_escaped.Given as goal

abbrev pub invariant-loop-byte : goal.invariant-loop-byte
invariant-loop-byte l = l.budget + length (escape (drop l.byte-index l.byte-items)) ≡ l.left + (1 + length (escape l.byte-items))
