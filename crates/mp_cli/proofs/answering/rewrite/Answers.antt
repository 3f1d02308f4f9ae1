use Rattle.std.proofs.lemmas.Result.{IfOk-weaker}
use Rattle.mp_tree.specs.Values.{value_document}
use Rattle.mp_cli.proofs.AnswerCases.{no_pair_by}
use Rattle.mp_cli.proofs.answering.rewrite.Goals as goal

pub returns-in_default : goal.returns-in_default
returns-in_default c = IfOk-weaker c.wrong_shape.result _ _ (λ a is. (no_pair_by value_document c.args.values.items _ c.in_default.ensures is).1) c.wrong_shape.ensures
