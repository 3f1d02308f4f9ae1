-- By hand, since a pointer may not cross threads by itself: the handle may, since its box is nobody else's and patches may cross.
use denote.Struct.Struct.{exits_of}
use denote.Struct.Owning.{shape, fields, to}
use denote.Param.Send.{IsSend, owning_send, struct_send, sendable}
use Rattle.std.proofs.Crossing as crossing
use Rattle.std.proofs.MapsCrossing as maps
use Rattle.std_alloc.proofs.SendSync.{quiet}
use Rattle.mp_tree.proofs.doc.Doc.TheLaws.TheKnot as knot
use Rattle.mp_c.proofs.HandleSend.{keyless, pointer_send}
use Rattle.mp_c.specs.contracts.patches_handle.PatchesHandle as handle
use Rattle.mp_replica.specs.contracts.patches.Patches as held

held_send : IsSend held.the_row
held_send = search (maps.crosses, crossing.crosses, knot.crosses, sendable) depth 60 fits 20000

pub send : IsSend handle.the_row
send = owning_send handle.the_type (pointer_send, tt) (λ d. keyless held.the_row held_send d.at d.value) (λ k. quiet (to handle.the_type) (exits_of k (fields handle.the_type)) ((struct_send (shape handle.the_type) (pointer_send, tt)).leaving k))
