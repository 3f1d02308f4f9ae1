use Rattle.std.proofs.Common.{◌≡◌, ◌+◌, drop}
use Rattle.mp_patch.proofs.Shapes.Lengths.{parts_length}
use Rattle.mp_patch.proofs.text_lengths.left_of_text.Given as goal

-- what is left of the budget and of the operations are together what all of both are, but for the opening bracket
abbrev pub invariant-loop-op : goal.invariant-loop-op
invariant-loop-op l = l.budget + parts_length (drop l.op-index l.ops) ≡ l.left + 1 + parts_length l.ops
