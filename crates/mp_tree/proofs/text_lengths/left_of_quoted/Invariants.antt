use Rattle.std.proofs.Common.{◌≡◌, ◌+◌, drop, length}
use Rattle.json.specs.Print.{escape}
use Rattle.mp_tree.proofs.text_lengths.left_of_quoted.Given as goal

abbrev pub invariant-loop-byte : goal.invariant-loop-byte
invariant-loop-byte l = l.budget + length (escape (drop l.byte-index l.byte-items)) ≡ l.left + (2 + length (escape l.byte-items))
