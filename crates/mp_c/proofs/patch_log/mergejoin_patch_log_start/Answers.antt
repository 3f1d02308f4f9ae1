use Rattle.std.proofs.Common.{[], refl, rules}
use Rattle.mp_replica.specs.declared.fault.LiveFault.TheVariants.{OutOfMemory}
use Rattle.mp_c.specs.OnHandles.{handle_fault, handle_text}
use Rattle.mp_c.specs.OnLogs.{IsStartedLog}
use Rattle.mp_c.specs.Report.{a_document}
use Rattle.mp_c.proofs.Started.{reported_unread}
use Rattle.mp_c.proofs.patch_log.mergejoin_patch_log_start.Goals as goal

pub returns-in-Err : goal.returns-in-Err
returns-in-Err c =
    reported_unread c.args.limit a_document (λ a. IsStartedLog c.args.epoch c.args.start.now c.args.log.now.value a c.args.log.now.value) c.report_unread_text.result c.args.out.now c.report_unread_text.new.out c.args.start.now c.in-Err.fault
    c.in-Err.ensures.start c.report_unread_text.ensures (λ why place says. (says, refl)) refl

pub returns-in_default : goal.returns-in_default
returns-in_default c = (handle_fault OutOfMemory, refl, c.report_no_memory.ensures)

pub returns : goal.returns
returns c =
    let started : IsStartedLog c.args.epoch c.args.start.now c.args.log.now.value (handle_text []) c.put.new.self.value = search rules in
    (handle_text [], started, c.write_result.ensures)
