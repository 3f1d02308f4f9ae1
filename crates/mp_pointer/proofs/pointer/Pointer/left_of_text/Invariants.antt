use Rattle.std.proofs.Common.{◌≡◌, ◌+◌, drop, length}
use Rattle.json.specs.Print.{escape as in_string}
use Rattle.mp_pointer.specs.Spelling.{spell}
use Rattle.mp_pointer.proofs.pointer.Pointer.left_of_text.Given as goal

abbrev pub invariant-loop-number : goal.invariant-loop-number
invariant-loop-number l = l.budget + length (in_string (spell (drop l.number l.self))) ≡ l.left + (2 + length (in_string (spell l.self)))
