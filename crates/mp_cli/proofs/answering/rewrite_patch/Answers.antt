use Rattle.std.proofs.Common.{◌∙◌, ap}
use Rattle.std.proofs.lemmas.Result.{IfOk-weaker}
use Rattle.mp_patch.specs.View.{operations_of}
use Rattle.mp_cli.specs.Answered.{rewritten}
use Rattle.mp_cli.specs.Lines.{line, exit_result}
use Rattle.mp_cli.proofs.answering.rewrite_patch.Goals as goal

pub returns-in_ok-write_patch-in-Ok : goal.returns-in_ok-write_patch-in-Ok
returns-in_ok-write_patch-in-Ok c =
    IfOk-weaker c.result_line.result _ _ (λ a is. rewritten (operations_of c.in-Ok.edits) c.in-Ok.ensures.rewriting (is ∙ ap (λ t. line t exit_result) c.in_ok-write_patch-in-Ok.ensures.text)) c.result_line.ensures
