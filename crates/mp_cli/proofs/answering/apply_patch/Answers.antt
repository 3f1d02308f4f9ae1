use Rattle.std.proofs.Common.{refl, sym, ◌∙◌, ap, subst}
use Rattle.std.proofs.lemmas.Result.{IfOk-weaker}
use Rattle.mp_tree.specs.Values.{value_document}
use Rattle.mp_tree.proofs.Facts.{IsDocument-value}
use Rattle.mp_patch.specs.View.{operations_by}
use Rattle.mp_patch.specs.Within.{IsApplyWithinFault}
use Rattle.mp_patch.specs.Work.{no_limit}
use Rattle.mp_cli.specs.Answered.{ran, halted}
use Rattle.mp_cli.specs.Lines.{line, exit_result}
use Rattle.mp_cli.proofs.answering.apply_patch.Goals as goal

pub without_limit-requires : goal.without_limit-requires
without_limit-requires c k is =
    let d = value_document c.args.doc in
    let operations = operations_by value_document c.args.ops.items in
    (c.limits_change_nothing.ensures no_limit d operations).unlimited k refl (subst (λ f. IsApplyWithinFault no_limit f d operations) is c.in-Err.ensures.runs)

pub returns-in_ok-write_value-in-Ok : goal.returns-in_ok-write_value-in-Ok
returns-in_ok-write_value-in-Ok c =
    let d = value_document c.args.doc in
    let operations = operations_by value_document c.args.ops.items in
    let e = value_document c.in-Ok.result in
    let runs = (c.limits_change_nothing.ensures no_limit d operations).is_run e c.in-Ok.ensures.runs in
    let text = c.in_ok-write_value-in-Ok.ensures.text in
    IfOk-weaker c.result_line.result _ _ (λ a is. ran e (IsDocument-value c.in-Ok.result) runs (is ∙ ap (λ t. line t exit_result) text)) c.result_line.ensures

pub returns-in-Err : goal.returns-in-Err
returns-in-Err c =
    let d = value_document c.args.doc in
    let operations = operations_by value_document c.args.ops.items in
    let fault = c.without_limit.result in
    let within = subst (λ f. IsApplyWithinFault no_limit f d operations) (sym c.without_limit.ensures) c.in-Err.ensures.runs in
    let stops = (c.limits_change_nothing.ensures no_limit d operations).is_fault fault within in
    IfOk-weaker c.apply_fault.result _ _ (λ a is. halted fault stops is) c.apply_fault.ensures
