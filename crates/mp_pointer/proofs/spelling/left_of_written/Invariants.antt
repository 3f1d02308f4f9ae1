use Rattle.std.proofs.Common.{◌≡◌, ◌+◌, drop, length}
use Rattle.json.specs.Print.{escape as in_string}
use Rattle.mp_pointer.specs.Spelling.{escape}
use Rattle.mp_pointer.proofs.spelling.left_of_written.Given as goal

abbrev pub invariant-loop-byte : goal.invariant-loop-byte
invariant-loop-byte l = l.budget + length (in_string (escape (drop l.byte-index l.byte-items))) ≡ l.left + (1 + length (in_string (escape l.byte-items)))
