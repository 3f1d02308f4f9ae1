use Rattle.std.proofs.Common.{◌+◌, ◌-◌, arith}
use Rattle.mp_patch.proofs.Operations.Weights.{judged_addition, unfit_addition}
use Rattle.mp_patch.proofs.weighing.judge_arrival.Goals as goal

pub returns-then-not-fits : goal.returns-then-not-fits
returns-then-not-fits g c v value sum fit =
    unfit_addition c.args.scale.limit (g.T.Node.means c.args.left.now) c.args.path.now c.args.scale.weight c.args.fits v fit c.if-not-fits.true

pub returns-in-Some : goal.returns-in-Some
returns-in-Some g c v value sum fit =
    let x = c.in-Some.ensures in
    judged_addition c.args.scale.limit (g.T.Node.means c.args.left.now) c.args.path.now (c.args.scale.weight - c.in-Some.gives + c.in-Some.takes) c.in-Some.gives c.in-Some.takes c.sum_within.result v (c.requires.documents c.args.left.now) value x (λ none. fit.0 c.if-not-fits.false) (omega (arith, sum, x.within)) c.sum_within.ensures
