use Rattle.std.proofs.Common.{refl, rules, subst}
use Rattle.mp_cli.specs.Answered.{answered_by, IsAnswered}
use Rattle.mp_cli.proofs.running.run.Goals as goal

pub returns-in_err-deliver-clause-write_failed : goal.returns-in_err-deliver-clause-write_failed
returns-in_err-deliver-clause-write_failed g c _ =
    let is = subst (λ bytes. IsAnswered c.args.command.now bytes (answered_by c.in_ok-answer.answer)) c.as_slice.ensures.value c.in_ok-answer.ensures in
    (_, c.in_ok-bytes.ensures.whole, _, is, c.in_err-deliver.ensures.broken_off)

pub returns-clause-answered : goal.returns-clause-answered
returns-clause-answered g c =
    let is = subst (λ bytes. IsAnswered c.args.command.now bytes (answered_by c.in_ok-answer.answer)) c.as_slice.ensures.value c.in_ok-answer.ensures in
    (_, c.in_ok-bytes.ensures.whole, _, is, refl, c.in_ok-deliver.ensures.delivered)

pub returns-clause-read_failed : goal.returns-clause-read_failed
returns-clause-read_failed g c = search rules
