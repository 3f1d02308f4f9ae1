use Rattle.std.proofs.Common.{◌≡◌, take}
use Rattle.mp_patch.specs.View.{operations_of}
use Rattle.mp_patch.proofs.patch.JsonPatch.copy.Given as goal

-- the copies so far mean the operations so far
abbrev pub invariant-loop-op : goal.invariant-loop-op
invariant-loop-op l = operations_of l.ops.items ≡ operations_of (take l.op-index l.op-items)
