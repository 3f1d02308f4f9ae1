use Rattle.std.proofs.Common.{ap, option_map, sym, ◌∙◌}
use Rattle.mp_c.specs.OnLogs.{GivesCount, OnlyReads}
use Rattle.mp_c.proofs.Started.{IsPlain, read_back}
use Rattle.mp_c.proofs.patch_log.mergejoin_patch_log_count.Goals as goal

pub returns : goal.returns
returns c =
    let plain : IsPlain (OnlyReads GivesCount) = record { read = λ before after why does. does.0; spelled = λ before after why does. does.0 } in
    read_back (OnlyReads GivesCount) plain c.args.limit c.count-answer.result c.report_live.result c.args.out.now c.report_live.new.out c.args.log.now.value c.put.new.self.value c.in-Some.held.value c.deref.result.now c.in-Some.held.value
    (sym c.take.ensures.value ∙ ap (option_map (λ b. b.value)) c.in-Some.is) c.deref.ensures c.put.ensures (c.count-answer.ensures, sym c.deref.ensures) c.report_live.ensures
