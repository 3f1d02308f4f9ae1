use Rattle.std.proofs.Common.{◌≡◌, None, Some, option_and_then, take, rules, sym, ap, ◌∙◌}
use Rattle.mp_pointer.specs.Part.{child}
use Rattle.mp_patch.specs.Operation.{RemovesFrom}
use Rattle.mp_patch.specs.Private.Steps.{TakesOutBy}
use Rattle.mp_patch.proofs.Operations.SingleSteps.{at_ends, removed, nothing_there}
use Rattle.mp_patch.proofs.steps.remove.Goals as goal

pub returns-in_default-edit_part_in : goal.returns-in_default-edit_part_in
returns-in_default-edit_part_in g c =
    let f = g.T.Node.means in
    let path = c.args.path.now in
    let token = c.in-Some.token.now in
    nothing_there path (take c.in-Some.last path) token (f c.args.doc.now) c.in-Some.ensures (ap (option_and_then (child token)) c.in_default-edit_part_in.ensures.0)

pub returns : goal.returns
returns g c =
    let f = g.T.Node.means in
    let path = c.args.path.now in
    let token = c.in-Some.token.now in
    let edits = c.in-Some-edit_part_in.ensures in
    let met : TakesOutBy f c.in-Some-edit_part_in.taken token (f edits.edited.shown.now) (f edits.edited.left.now) = search rules in
    let none : child token (f edits.edited.shown.now) ≡ None = rw c.in-None.is at met.says in
    nothing_there path (take c.in-Some.last path) token (f c.args.doc.now) c.in-Some.ensures
    (ap (option_and_then (child token)) (edits.stood ∙ ap (λ d. Some (f d)) (sym edits.edited.shows)) ∙ none)

pub returns-in-Some-taken : goal.returns-in-Some-taken
returns-in-Some-taken g c =
    let f = g.T.Node.means in
    let path = c.args.path.now in
    let token = c.in-Some.token.now in
    let edits = c.in-Some-edit_part_in.ensures in
    let x = c.in-Some-taken.part in
    let met : TakesOutBy f c.in-Some-edit_part_in.taken token (f edits.edited.shown.now) (f edits.edited.left.now) = search rules in
    let taken : (child token (f edits.edited.shown.now) ≡ Some (f x)) × RemovesFrom token (f edits.edited.shown.now) (f edits.edited.left.now) = rw c.in-Some-taken.is at met.says in
    let moved = at_ends (λ d e. (child token (f d) ≡ Some (f x)) × RemovesFrom token (f d) (f e)) edits.edited.shown.now edits.edited.left.now edits.before edits.after edits.edited.shows edits.edited.leaves taken in
    removed path (take c.in-Some.last path) token (f x) (f c.args.doc.now) (f c.edit_part_in.new.node) (f edits.before) (f edits.after) c.in-Some.ensures edits.stood edits.stands edits.only moved.0 moved.1
