use Rattle.std.proofs.Common.{Some, subst}
use Rattle.std.proofs.lemmas.Result.{on_ok_weaker}
use Rattle.serde.specs.Event.{Logs, map_begins, text}
use Rattle.mp_patch.proofs.Shapes.Written.{SendsOriginMember, SendsValueMember, sends_shape}
use Rattle.mp_patch.proofs.serializing.send.Goals as goal
use Rattle.mp_patch.proofs.serializing.send.Goals.{in-Some+in_ok-key+in_ok-send_pointer, in_default, in-Some-value+in_ok-key-4+in_ok-serialize, in_default-value}

pub returns : goal.returns
returns g c =
    let written = g.S.Serializer.written in
    let s = c.args.shape.now in
    let begins = subst (λ n. Logs (written c.args.out.now) (written c.begin_map.new.self) (map_begins (Some n))) c.len.ensures c.in_ok-begin_map.ensures in
    let name = subst (λ word. Logs (written c.key-2.new.self) (written c.str.new.self) (text word)) c.as_str.ensures c.in_ok-str.ensures in
    let origin : SendsOriginMember s.origin (written c.begin_map.new.self) (written c.match-shape.out) = elim c.match-shape.branch [
      | in-Some+in_ok-key+in_ok-send_pointer w ↦ rw (w.in-Some.is, w.out-is) (written w.key.new.self, w.in_ok-key.ensures, w.in_ok-send_pointer.ensures)
      | in_default w ↦ rw (w.in_default.is, w.out-is)
    ]
    in
    let value : SendsValueMember s.value (written c.send_pointer-2.new.out) (written c.match-shape-2.out) = elim c.match-shape-2.branch [
      | in-Some-value+in_ok-key-4+in_ok-serialize w ↦ rw (w.in-Some-value.is, w.out-is) (written w.key-in-Some-value.new.self, w.in_ok-key-4.ensures, w.in_ok-serialize.ensures)
      | in_default-value w ↦ rw (w.in_default-value.is, w.out-is)
    ]
    in
    on_ok_weaker c.end_map.result (λ ends. sends_shape s (written c.args.out.now) (written c.begin_map.new.self) (written c.match-shape.out) (written c.key-2.new.self) (written c.str.new.self) (written c.key-3.new.self) (written c.send_pointer-2.new.out) (written c.match-shape-2.out) (written c.end_map.new.self)
    begins origin c.in_ok-key-2.ensures name c.in_ok-key-3.ensures c.in_ok-send_pointer-2.ensures value ends)
    c.end_map.ensures
