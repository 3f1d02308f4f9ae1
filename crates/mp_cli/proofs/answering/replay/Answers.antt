use Rattle.std.proofs.Common.{◌≡◌, ◌∷◌, ◌∙◌, map, ap, sym}
use Rattle.std.proofs.lemmas.Result.{IfOk-weaker}
use Rattle.mp_tree.specs.Values.{value_document}
use Rattle.mp_tree.proofs.Facts.{IsDocument-value}
use Rattle.mp_cli.specs.Answered.{replayed}
use Rattle.mp_cli.specs.Lines.{line, exit_result}
use Rattle.mp_cli.proofs.AnswerCases.{no_replay, replay_answer_by}
use Rattle.mp_cli.proofs.answering.replay.Goals as goal

pub returns-in-Ok : goal.returns-in-Ok
returns-in-Ok c =
    let vs = c.args.values.items in
    let d = c.in-Some.start in
    let ps = c.as_slice.result.now in
    let e = c.in-Ok.value in
    let split : vs ≡ d ∷ ps = c.in-Some.ensures ∙ ap (λ rest. d ∷ rest) (sym c.as_slice.ensures.value) in
    let text = c.in_ok-write_value-in-Ok.ensures.text in
    IfOk-weaker c.result_line.result _ _ (λ a is. replay_answer_by value_document vs ps d _ split (replayed (value_document e) (IsDocument-value e) c.in-Ok.ensures.outcome (is ∙ ap (λ t. line t exit_result) text))) c.result_line.ensures

pub returns : goal.returns
returns c =
    let vs = c.args.values.items in
    let d = c.in-Some.start in
    let ps = c.as_slice.result.now in
    let split : vs ≡ d ∷ ps = c.in-Some.ensures ∙ ap (λ rest. d ∷ rest) (sym c.as_slice.ensures.value) in
    IfOk-weaker c.list_fault.result _ _ (λ a is. replay_answer_by value_document vs ps d _ split (no_replay c.first_conflicts.ensures.without_limit c.in-Err.fault (value_document d) (map value_document ps) _ c.in-Err.ensures.outcome is)) c.list_fault.ensures
