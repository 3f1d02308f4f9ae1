use Rattle.std.proofs.Common.{◌≡◌, ◌∙◌, List, map, ap, sym, subst}
use Rattle.std.proofs.lemmas.Result.{IfOk-weaker}
use Rattle.mp_tree.specs.Document.{Document}
use Rattle.mp_tree.specs.Values.{value_document, value_items}
use Rattle.mp_cli.specs.Answered.{answered_by, merge_answer, IsAnswered, IsJoinAnswer}
use Rattle.mp_cli.proofs.answering.answer.Goals as goal
use Rattle.mp_tree.proofs.Facts.{list_of-by}

pub returns-in-Join : goal.returns-in-Join
unfolding IsAnswered
returns-in-Join c =
    let values = c.in-Ok.values.items in
    let listed = list_of-by value_document values in
    IfOk-weaker c.join.result _ _ (λ a is. rw (c.in-Join.is, c.in-Ok.ensures.documents) (subst (λ (ps : List Document). IsJoinAnswer ps (answered_by a)) (ap (map value_document) c.as_slice.ensures.value ∙ sym listed) is)) c.join.ensures

pub returns-in-Merge : goal.returns-in-Merge
unfolding IsAnswered
returns-in-Merge c =
    let answer = merge_answer (value_items c.in-Ok.values.items) in
    IfOk-weaker _ (λ a. answered_by a ≡ answer) (λ a. IsAnswered c.args.command.now c.args.input.now (answered_by a)) (λ a is. rw (c.in-Merge.is, c.in-Ok.ensures.documents) is) (search)
