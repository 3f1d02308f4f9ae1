use Rattle.std.proofs.lemmas.Result.{IfOk-weaker}
use Rattle.mp_tree.specs.Values.{value_document}
use Rattle.mp_patch.specs.View.{operations_by}
use Rattle.mp_cli.specs.Answered.{malformed, formed}
use Rattle.mp_cli.proofs.answering.read_and_apply.Goals as goal

pub returns-in-Ok : goal.returns-in-Ok
returns-in-Ok c =
    IfOk-weaker c.apply_patch.result _ _ (λ a is. formed (operations_by value_document c.in-Ok.ops.items) c.in-Ok.ensures is) c.apply_patch.ensures

pub returns-in-Err : goal.returns-in-Err
returns-in-Err c =
    IfOk-weaker c.form_fault.result _ _ (λ a is. malformed c.in-Err.fault c.in-Err.ensures is) c.form_fault.ensures
