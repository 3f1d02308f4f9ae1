use Rattle.std.proofs.Common.{[], refl, rules, subst}
use Rattle.mp_replica.specs.declared.fault.LiveFault.TheVariants.{OutOfMemory, Pending}
use Rattle.mp_replica.specs.declared.replica.Received.{Received}
use Rattle.mp_c.specs.OnHandles.{HasReceived, Receives, StillFollows, handle_fault, handle_text}
use Rattle.mp_c.specs.Report.{a_patch}
use Rattle.mp_c.proofs.OnReplicas.{refuses}
use Rattle.mp_c.proofs.Started.{reported_unread}
use Rattle.mp_c.proofs.replica.receive.Goals as goal

pub returns-in-Err : goal.returns-in-Err
returns-in-Err c =
    let before = c.args.replica.now in
    let after = c.receive_text.new.self in
    let still : StillFollows before after = search rules in
    reported_unread c.args.limit a_patch (λ a. HasReceived c.args.limit c.args.patch.now before a after) c.report_unread_text.result c.args.out.now c.report_unread_text.new.out c.args.patch.now c.in-Err.fault c.in-Err.ensures.fault
    c.report_unread_text.ensures (λ why place says. (says, c.in-Err.ensures.unchanged)) still

pub returns-in-Taken : goal.returns-in-Taken
returns-in-Taken c =
    let receives = subst (λ (what : Received). Receives what c.args.patch.now c.args.replica.now c.receive_text.new.self) c.in-Taken.is c.in-Ok.ensures.texts in
    (handle_text [], (refl, receives), c.write_result.ensures)

pub returns-in-Conflict : goal.returns-in-Conflict
returns-in-Conflict c =
    let receives = subst (λ (what : Received). Receives what c.args.patch.now c.args.replica.now c.receive_text.new.self) c.in-Conflict.is c.in-Ok.ensures.texts in
    refuses c.args.limit c.args.patch.now c.args.replica.now c.receive_text.new.self c.in-Conflict.back c.conflicts_within-found.result c.report_conflicts.result c.args.out.now c.report_conflicts.new.out receives
    c.conflicts_within-found.ensures.places c.report_conflicts.ensures

pub returns-in-Pending : goal.returns-in-Pending
returns-in-Pending c =
    let receives = subst (λ (what : Received). Receives what c.args.patch.now c.args.replica.now c.receive_text.new.self) c.in-Pending.is c.in-Ok.ensures.texts in
    (handle_fault Pending, receives, c.report_live_fault.ensures)

pub returns-in-Refused : goal.returns-in-Refused
returns-in-Refused c =
    let still : StillFollows c.args.replica.now c.receive_text.new.self = search rules in
    (handle_fault OutOfMemory, still, c.report_no_memory.ensures)
