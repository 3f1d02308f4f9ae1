use Rattle.std.proofs.Common.{◌≡◌, ◌∙◌, ap, take, arith}
use Rattle.std.proofs.lemmas.List.{take_all}
use Rattle.std.proofs.lemmas.Result.{IfOk-weaker}
use Rattle.mp_tree.specs.Values.{value_document}
use Rattle.mp_pointer.specs.Part.{part}
use Rattle.mp_cli.specs.Answered.{spelled, misspelled}
use Rattle.mp_cli.specs.Lines.{part_line}
use Rattle.mp_cli.proofs.AnswerCases.{no_single_by, single_part_by}
use Rattle.mp_cli.proofs.answering.get.Goals as goal

pub returns-in_default : goal.returns-in_default
returns-in_default c = IfOk-weaker c.wrong_shape.result _ _ (λ a is. no_single_by value_document c.args.pointer.now c.args.values.items _ c.in_default.ensures is) c.wrong_shape.ensures

pub returns-in-Ok : goal.returns-in-Ok
returns-in-Ok c =
    let tokens = c.in-Ok.pointer in
    let whole : take c.len.result tokens ≡ tokens = take_all c.len.result tokens (omega (arith, c.len.ensures)) in
    let found = c.part_in.ensures ∙ ap (part (value_document c.in-Some.doc)) whole in
    IfOk-weaker c.part_line.result _ _ (λ a is. single_part_by value_document c.args.pointer.now c.args.values.items c.in-Some.doc _ c.in-Some.ensures
    (spelled tokens c.in-Ok.ensures.spelled (is ∙ ap part_line found))) c.part_line.ensures

pub returns : goal.returns
returns c =
    IfOk-weaker c.spelling_fault.result _ _ (λ a is. single_part_by value_document c.args.pointer.now c.args.values.items c.in-Some.doc _ c.in-Some.ensures (misspelled c.in-Err.fault c.in-Err.ensures.fault is))
    c.spelling_fault.ensures
