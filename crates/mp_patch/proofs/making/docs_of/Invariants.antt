use Rattle.std.proofs.Common.{◌≡◌, map, take}
use Rattle.mp_tree.specs.View.{document}
use Rattle.mp_patch.specs.Form.{shape}
use Rattle.mp_patch.specs.View.{operations_of}
use Rattle.mp_patch.proofs.making.docs_of.Given as goal

abbrev pub invariant-loop-op : goal.invariant-loop-op
invariant-loop-op l = map document l.elements.items ≡ map shape (operations_of (take l.op-index l.fn.ops))
