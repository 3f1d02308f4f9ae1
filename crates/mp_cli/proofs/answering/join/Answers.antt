use Rattle.std.proofs.Common.{◌∙◌, map, ap}
use Rattle.std.proofs.lemmas.Result.{IfOk-weaker}
use Rattle.mp_tree.specs.Values.{value_document}
use Rattle.mp_tree.proofs.Facts.{IsDocument-value}
use Rattle.mp_cli.specs.Answered.{joined}
use Rattle.mp_cli.specs.Lines.{line, exit_result}
use Rattle.mp_cli.proofs.AnswerCases.{no_join}
use Rattle.mp_cli.proofs.answering.join.Goals as goal

pub returns-in_ok-write_value-in-Ok : goal.returns-in_ok-write_value-in-Ok
returns-in_ok-write_value-in-Ok c =
    let j = c.in-Ok.joined in
    let text = c.in_ok-write_value-in-Ok.ensures.text in
    IfOk-weaker c.result_line.result _ _ (λ a is. joined (value_document j) (IsDocument-value j) c.in-Ok.ensures.joined (is ∙ ap (λ t. line t exit_result) text)) c.result_line.ensures

pub returns-in-Err : goal.returns-in-Err
returns-in-Err c =
    let patches = map value_document c.args.patches.now in
    IfOk-weaker c.list_fault.result _ _ (λ a is. no_join c.first_conflicts.ensures.without_limit c.in-Err.fault patches _ c.in-Err.ensures.joined is) c.list_fault.ensures
