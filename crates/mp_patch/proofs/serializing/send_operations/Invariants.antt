use Rattle.std.proofs.Common.{drop}
use Rattle.serde.specs.Event.{Log}
use Rattle.serde_json.specs.Events.{SendsItems}
use Rattle.mp_patch.proofs.Shapes.Written.{shapes_data}
use Rattle.mp_patch.proofs.serializing.send_operations.Given as goal

-- whatever sends the operations that are left, and the end, from here, sends all of them from the start
abbrev pub invariant-loop-op : goal.invariant-loop-op
invariant-loop-op g l =
    (end : Log) → SendsItems (shapes_data (drop l.op-index l.ops)) (g.S.Serializer.written l.out) end → SendsItems (shapes_data l.ops) (g.S.Serializer.written l.initial.out) end
