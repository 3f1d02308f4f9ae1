use Rattle.std.proofs.Common.{◌+◌, ◌-◌, None, Some, refl, sym, arith}
use Rattle.mp_tree.specs.Weight.{weight}
use Rattle.mp_tree.proofs.Facts.{some_none}
use Rattle.mp_pointer.proofs.Facts.{part-weight}
use Rattle.mp_patch.proofs.Operations.Weights.{judged_replacement}
use Rattle.mp_patch.proofs.weighing.judge_replacement.Goals as goal

pub weight_of-requires : goal.weight_of-requires
weight_of-requires g c =
    let f = g.T.Node.means in
    omega (arith, c.requires.weight, part-weight c.args.path.now (f c.args.doc.now) (f c.in-Some.part.now) (c.requires.documents c.args.doc.now) (sym c.in-Some.ensures))

pub overflow_sub-scale : goal.overflow_sub-scale
overflow_sub-scale g c =
    let f = g.T.Node.means in
    omega (arith, c.requires.weight, c.weight_of.ensures, part-weight c.args.path.now (f c.args.doc.now) (f c.in-Some.part.now) (c.requires.documents c.args.doc.now) (sym c.in-Some.ensures))

pub returns-in-Some-weight_with-clause-judged : goal.returns-in-Some-weight_with-clause-judged
returns-in-Some-weight_with-clause-judged g c =
    let f = g.T.Node.means in
    let d = c.args.doc.now in
    let v = c.args.value.now in
    let x = f c.in-Some.part.now in
    let left = c.args.scale.weight - c.weight_of.result in
    let less = part-weight c.args.path.now (f d) x (c.requires.documents d) (sym c.in-Some.ensures) in
    judged_replacement c.args.scale.limit (f d) c.args.path.now (left + 0 + weight (f v)) (Some c.in-Some-weight_with.next) x (f v) (c.requires.documents d) (c.requires.documents v) (sym c.in-Some.ensures)
    (λ none. some_none (Some c.in-Some-weight_with.next) c.in-Some-weight_with.next refl none) (omega (arith, c.requires.weight, c.weight_of.ensures, less)) c.in-Some-weight_with.ensures

pub returns-then-admit-clause-judged : goal.returns-then-admit-clause-judged
returns-then-admit-clause-judged g c =
    let f = g.T.Node.means in
    let d = c.args.doc.now in
    let v = c.args.value.now in
    let x = f c.in-Some.part.now in
    let left = c.args.scale.weight - c.weight_of.result in
    let less = part-weight c.args.path.now (f d) x (c.requires.documents d) (sym c.in-Some.ensures) in
    judged_replacement c.args.scale.limit (f d) c.args.path.now (left + 0 + weight (f v)) None x (f v) (c.requires.documents d) (c.requires.documents v) (sym c.in-Some.ensures)
    (λ _. omega (arith, c.admit.ensures.fits.0 c.if-admit.true, c.len.ensures)) (omega (arith, c.requires.weight, c.weight_of.ensures, less)) c.in-None.ensures
