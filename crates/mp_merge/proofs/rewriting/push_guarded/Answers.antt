use Rattle.std.proofs.Common.{◌≡◌, [], ◌∷◌, ◌++◌, ◌+◌, List, sym, ap, ap₂, ◌∙◌, arith}
use Rattle.std.proofs.lemmas.Bool.{iff_false}
use Rattle.std.proofs.lemmas.List.{map-append}
use Rattle.mp_tree.specs.Document.{Document}
use Rattle.mp_tree.specs.View.{document}
use Rattle.mp_tree.specs.Weight.{weight}
use Rattle.mp_tree.specs.declared.doc.Doc.{Doc}
use Rattle.mp_pointer.specs.Spelling.{Tokens}
use Rattle.mp_pointer.specs.Weight.{place_weight}
use Rattle.mp_patch.specs.Operation.{Operation, test}
use Rattle.mp_patch.specs.View.{operation_of, operations_of}
use Rattle.mp_patch.specs.Weight.{operation_weight}
use Rattle.mp_patch.specs.declared.op.Op.{Op}
use Rattle.mp_patch.specs.declared.op.Op.TheVariants.{Test}
use Rattle.mp_merge.specs.Private.Budgets.{if_left, left_after}
use Rattle.mp_merge.specs.Private.Edits.{GuardedEdit, Lists, admit_edit, guarded_weight, lists_of, with_edit}
use Rattle.mp_merge.specs.declared.budget.Budget.{Budget}
use Rattle.mp_merge.specs.declared.budget.Budget.TheVariants.{Over}
use Rattle.mp_merge.proofs.Budgets.{left_after_both, nothing_left, something_left}
use Rattle.mp_merge.proofs.rewriting.push_guarded.Goals as goal

-- what is left after the test's place, its value and the edit
all_three : (place : Tokens) (v : Document) (o : Operation) (b after_place after_value left : Budget)
    → after_place ≡ left_after (place_weight place) b → after_value ≡ left_after (weight v) after_place → left ≡ left_after (operation_weight o) after_value
    → left ≡ left_after (guarded_weight (test place v ∷ [], o)) b
all_three place v o b after_place after_value left one two three =
    let sum : place_weight place + weight v + operation_weight o ≡ guarded_weight (test place v ∷ [], o) = omega arith in
    three ∙ ap (left_after (operation_weight o)) (two ∙ ap (left_after (weight v)) one ∙ left_after_both (place_weight place) (weight v) b)
    ∙ left_after_both (place_weight place + weight v) (operation_weight o) b ∙ ap (λ w. left_after w b) sum

module _ (lists : Lists) (g : GuardedEdit) (b left : Budget) (is : left ≡ left_after (guarded_weight g) b) where
  stays : left ≡ Over → (lists, left) ≡ admit_edit (lists, b) g
  stays over = sym (nothing_left lists (with_edit lists g) left over) ∙ ap (if_left lists (with_edit lists g)) is

  grows : (now : Lists) → now ≡ with_edit lists g → ¬ (left ≡ Over) → (now, left) ≡ admit_edit (lists, b) g
  grows now added open_yet = ap (λ (x : Lists). (x, left)) added ∙ sym (something_left lists (with_edit lists g) left open_yet) ∙ ap (if_left lists (with_edit lists g)) is

both_pushed : (guards more edits others : List (Op Doc)) (moved place : Tokens) (value : Doc) (op : Op Doc) (v : Document) → moved ≡ place → more ≡ guards ++ Test moved value ∷ [] → others ≡ edits ++ op ∷ [] → document value ≡ v
    → (operations_of more, operations_of others) ≡ with_edit (operations_of guards, operations_of edits) (test place v ∷ [], operation_of op)
both_pushed guards more edits others moved place value op v same one other is =
    ap₂ (λ (xs ys : List Operation). (xs, ys)) (ap operations_of one ∙ map-append operation_of guards (Test moved value ∷ []) ∙ ap₂ (λ w x. operations_of guards ++ test w x ∷ []) same is)
    (ap operations_of other ∙ map-append operation_of edits (op ∷ []))

pub returns-then-is_over : goal.returns-then-is_over
returns-then-is_over g c =
    let v = g.T.Node.means c.args.there.now in
    let found = c.args.found.now in
    let left = all_three c.args.place v (operation_of c.args.op) found.budget c.after_place.result c.after_node-tested.result c.after_op-found.result c.after_place.ensures c.after_node-tested.ensures c.after_op-found.ensures in
    stays (lists_of found) (test c.args.place v ∷ [], operation_of c.args.op) found.budget c.after_op-found.result left (c.is_over.ensures.0 c.if-is_over.true)

pub returns : goal.returns
returns g c =
    let v = g.T.Node.means c.args.there.now in
    let found = c.args.found.now in
    let left = all_three c.args.place v (operation_of c.args.op) found.budget c.after_place.result c.after_node-tested.result c.after_op-found.result c.after_place.ensures c.after_node-tested.ensures c.after_op-found.ensures in
    let pushed = both_pushed _ c.push.new.self _ c.push-2.new.self.items _ c.args.place c.in_ok-to_doc.field-0 c.args.op v c.place.view_is c.in_ok-push.ensures.ok c.in_ok-push-2.ensures.items c.in_ok-to_doc.ensures.equal in
    grows (lists_of found) (test c.args.place v ∷ [], operation_of c.args.op) found.budget c.after_op-found.result left _ pushed (iff_false c.is_over.ensures c.if-is_over.false)
