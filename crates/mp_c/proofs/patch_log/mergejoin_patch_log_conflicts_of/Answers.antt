use Rattle.std.proofs.Common.{Option, Some, ap, option_map, sym, ◌∙◌, refl, subst}
use Rattle.mp_c.specs.OnLogs.{GivesConflicts, OnlyReads}
use Rattle.mp_c.specs.Private.Reporting.{pairs_answer}
use Rattle.mp_c.specs.Report.{a_document}
use Rattle.mp_replica.specs.declared.message.Identity.{Identity}
use Rattle.mp_c.proofs.LogBuffers.{gives_conflicts, pairs_reported}
use Rattle.mp_c.proofs.Started.{put_back}
use Rattle.mp_c.proofs.patch_log.mergejoin_patch_log_conflicts_of.Goals as goal

pub returns : goal.returns
returns c =
    let of : Option Identity = (Some (record { sender = c.args.sender; number = c.args.number })) in
    let limit = c.args.limit in
    let given = c.conflicts_of_text_within-answer.result in
    let gives = subst (λ log. GivesConflicts of limit log (pairs_answer given)) c.deref.ensures (gives_conflicts of limit c.deref.result.now given c.conflicts_of_text_within-answer.ensures) in
    put_back (OnlyReads (GivesConflicts of limit)) limit a_document c.args.log.now.value c.put.new.self.value c.report_conflicts.result c.args.out.now c.report_conflicts.new.out c.in-Some.held.value c.in-Some.held.value
    (pairs_answer given) (sym c.take.ensures.value ∙ ap (option_map (λ b. b.value)) c.in-Some.is) c.put.ensures (gives, refl)
    (pairs_reported of limit c.in-Some.held.value given c.report_conflicts.result c.args.out.now c.report_conflicts.new.out gives c.report_conflicts.ensures)
