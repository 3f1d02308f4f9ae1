use Rattle.std.proofs.Common.{take, rules, inl, refl, sym, subst}
use Rattle.mp_patch.specs.Refusal.{LacksPlace}
use Rattle.mp_patch.specs.Private.Steps.{Inserts}
use Rattle.mp_patch.proofs.Operations.SingleSteps.{at_ends, added}
use Rattle.mp_patch.proofs.steps.put.Goals as goal

pub returns-in-Some-edit_part_in : goal.returns-in-Some-edit_part_in
returns-in-Some-edit_part_in g c =
    let f = g.T.Node.means in
    let path = c.args.path.now in
    let token = c.in-Some.token.now in
    let edits = c.in-Some-edit_part_in.ensures in
    let r = c.in-Some-edit_part_in.inserted in
    let fits = c.args.fits in
    let met : Inserts r fits token (f c.args.value) (f edits.edited.shown.now) (f edits.edited.left.now) = search rules in
    let inserts = at_ends (λ x y. Inserts r fits token (f c.args.value) (f x) (f y)) edits.edited.shown.now edits.edited.left.now edits.before edits.after edits.edited.shows edits.edited.leaves met in
    added r fits path (take c.in-Some.last path) token (f c.args.value) (f c.args.doc.now) (f c.edit_part_in.new.node) (f edits.before) (f edits.after) c.requires.0 c.requires.1 c.in-Some.ensures edits.stood edits.stands edits.only inserts

pub returns-in-None : goal.returns-in-None
returns-in-None g c =
    let path = c.args.path.now in
    inl (refl, (take c.in-Some.last path, c.in-Some.token.now, c.in-Some.ensures, subst (LacksPlace c.in-Some.token.now) (sym c.in-None.ensures.0) tt))
