use Rattle.mp_c.specs.OnHandles.{handle_text}
use Rattle.mp_c.specs.OnLogs.{ArrivesAs, SaysArrival}
use Rattle.mp_c.specs.Report.{a_patch}
use Rattle.mp_c.proofs.Started.{reported_unread}
use Rattle.mp_c.proofs.patch_log.receive.Goals as goal

pub returns-in-Ok : goal.returns-in-Ok
returns-in-Ok c =
    let (p, read) = c.in-Ok.ensures.read in
    let arrives : ArrivesAs c.in-Ok.arrival c.args.epoch c.args.identity c.args.patch.now c.args.log.now c.receive_text.new.self =
    record { patch = p; read = read; receives = c.in-Ok.ensures.receives p read; received = λ n start messages has. c.in-Ok.ensures.received start messages n has p read } in
    (handle_text c.word_of.result.now, (c.in-Ok.arrival, c.word_of.ensures, arrives), c.write_result.ensures)

pub returns-in-Err : goal.returns-in-Err
returns-in-Err c =
    reported_unread c.args.limit a_patch (λ a. SaysArrival c.args.epoch c.args.identity c.args.patch.now c.args.log.now a c.receive_text.new.self) c.report_unread_text.result c.args.out.now c.report_unread_text.new.out
    c.args.patch.now c.in-Err.fault c.in-Err.ensures.fault c.report_unread_text.ensures (λ why place says. (says, c.in-Err.ensures.unchanged)) c.in-Err.ensures.unchanged
