use Rattle.std.proofs.Common.{ap, option_map, sym, ◌∙◌}
use Rattle.mp_c.specs.OnHandles.{ShowsDocument}
use Rattle.mp_c.proofs.Started.{IsPlain, read_back}
use Rattle.mp_c.proofs.replica.mergejoin_replica_document.Goals as goal

pub returns : goal.returns
returns c =
    let plain : IsPlain (ShowsDocument c.args.limit) = record { read = λ before after why does. does.1; spelled = λ before after why does. does.1 } in
    read_back (ShowsDocument c.args.limit) plain c.args.limit c.document-answer.result c.report_live.result c.args.out.now c.report_live.new.out c.args.replica.now.value c.put.new.self.value c.in-Some.held.value c.deref_mut.result.now c.document-answer.new.replica
    (sym c.take.ensures.value ∙ ap (option_map (λ b. b.value)) c.in-Some.is) c.deref_mut.ensures.value c.put.ensures c.document-answer.ensures c.report_live.ensures
