use Rattle.std.proofs.Common.{map, take}
use Rattle.mp_tree.specs.Values.{value_document}
use Rattle.mp_texts.specs.Texts.{AreRead, given}
use Rattle.mp_texts.proofs.reading.read_patch_values.Given as goal

-- the texts so far are read
abbrev pub invariant-loop-number : goal.invariant-loop-number
invariant-loop-number l = AreRead (take l.number (given l.fn.patches)) (map value_document l.values.items)
