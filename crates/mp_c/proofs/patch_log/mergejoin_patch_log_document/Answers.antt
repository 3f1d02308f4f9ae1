use Rattle.std.proofs.Common.{ap, option_map, sym, ◌∙◌}
use Rattle.mp_c.specs.OnLogs.{GivesLogDocument, OnlyReads}
use Rattle.mp_c.proofs.Started.{IsPlain, read_back}
use Rattle.mp_c.proofs.patch_log.mergejoin_patch_log_document.Goals as goal

pub returns : goal.returns
returns c =
    let plain : IsPlain (OnlyReads (GivesLogDocument c.args.limit)) = record { read = λ before after why does. does.0; spelled = λ before after why does. does.0 } in
    read_back (OnlyReads (GivesLogDocument c.args.limit)) plain c.args.limit c.document-answer.result c.report_live.result c.args.out.now c.report_live.new.out c.args.log.now.value c.put.new.self.value c.in-Some.held.value c.deref_mut.result.now c.document-answer.new.log
    (sym c.take.ensures.value ∙ ap (option_map (λ b. b.value)) c.in-Some.is) c.deref_mut.ensures.value c.put.ensures c.document-answer.ensures c.report_live.ensures
