use Rattle.std.proofs.Common.{◌≡◌, [], drop, Some, sym, subst, arith}
use Rattle.std.proofs.lemmas.List.{drop_all}
use Rattle.std.proofs.lemmas.Result.{on_ok_weaker}
use Rattle.serde.specs.Event.{Logs, seq_begins}
use Rattle.serde_json.specs.Events.{SendsItems}
use Rattle.mp_patch.proofs.Shapes.Written.{shapes_data, items_len-shapes}
use Rattle.mp_patch.proofs.serializing.send_operations.Goals as goal

pub returns : goal.returns
returns g c =
    let ops = c.args.ops.now in
    let first = g.S.Serializer.written c.begin_seq.new.self in
    let begun = subst (λ n. Logs (g.S.Serializer.written c.args.out.now) first (seq_begins (Some n))) (sym (items_len-shapes ops)) c.in_ok-begin_seq.ensures in
    let none : drop c.loop-op.op-index ops ≡ [] = drop_all c.loop-op.op-index ops (omega arith) in
    on_ok_weaker c.end_seq.result (λ e. (
      first,
      begun,
      c.loop-op.invariant (g.S.Serializer.written c.end_seq.new.self) (subst (λ os. SendsItems (shapes_data os) (g.S.Serializer.written c.loop-op.out) (g.S.Serializer.written c.end_seq.new.self)) (sym none) e),
    )) c.end_seq.ensures
