use Rattle.std.proofs.Common.{◌≡◌, ◌+◌, drop, length}
use Rattle.mp_pointer.specs.Spelling.{spell}
use Rattle.mp_pointer.proofs.pointer.Pointer.left_of_tokens.Given as goal

abbrev pub invariant-loop-number : goal.invariant-loop-number
invariant-loop-number l = l.budget + length (spell (drop l.number l.self)) ≡ l.left + length (spell l.self)
