use Rattle.std.proofs.Common.{◌+◌, ◌-◌, None, Some, refl, arith}
use Rattle.mp_tree.specs.Weight.{weight}
use Rattle.mp_tree.proofs.Facts.{some_none}
use Rattle.mp_patch.proofs.Operations.Weights.{judged_addition, unfit_addition}
use Rattle.mp_patch.proofs.weighing.judge_addition.Goals as goal

pub returns-then-admit-clause-judged : goal.returns-then-admit-clause-judged
returns-then-admit-clause-judged g c =
    let f = g.T.Node.means in
    let d = c.args.doc.now in
    let v = c.args.value.now in
    let x = c.in-Some.ensures in
    judged_addition c.args.scale.limit (f d) c.args.path.now (c.args.scale.weight - c.in-Some.gives + c.in-Some.takes + weight (f v)) c.in-Some.gives c.in-Some.takes None (f v) (c.requires.documents d) (c.requires.documents v) x
    (λ _. omega (arith, c.admit.ensures.fits.0 c.if-admit.true, c.len.ensures)) (omega (arith, c.requires.weight, x.within)) c.in-None.ensures

pub returns-else-admit-clause-judged : goal.returns-else-admit-clause-judged
returns-else-admit-clause-judged g c =
    let f = g.T.Node.means in
    let fits = c.admit.ensures.fits in
    unfit_addition c.args.scale.limit (f c.args.doc.now) c.args.path.now c.args.scale.weight c.admit.result (f c.args.value.now) ((λ h. omega (arith, fits.0 h, c.len.ensures)), (λ h. fits.1 (omega (arith, h, c.len.ensures)))) c.if-admit.false

pub returns-in-Some-weight_with-clause-judged : goal.returns-in-Some-weight_with-clause-judged
returns-in-Some-weight_with-clause-judged g c =
    let f = g.T.Node.means in
    let d = c.args.doc.now in
    let v = c.args.value.now in
    let x = c.in-Some.ensures in
    let next = c.in-Some-weight_with.next in
    judged_addition c.args.scale.limit (f d) c.args.path.now (c.args.scale.weight - c.in-Some.gives + c.in-Some.takes + weight (f v)) c.in-Some.gives c.in-Some.takes (Some next) (f v) (c.requires.documents d) (c.requires.documents v) x
    (λ none. some_none (Some next) next refl none) (omega (arith, c.requires.weight, x.within)) c.in-Some-weight_with.ensures
