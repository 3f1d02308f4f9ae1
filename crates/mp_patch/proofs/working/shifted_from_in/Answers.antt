use Rattle.std.proofs.Common.{◌<◌, ◌^◌, length, sym, arith}
use Rattle.mp_patch.proofs.Operations.Works.{shifted_in-none, shifted_in-numeral}
use Rattle.mp_patch.proofs.working.shifted_from_in.Goals as goal

pub returns-in-Some-index_of : goal.returns-in-Some-index_of
returns-in-Some-index_of g c =
    let f = g.T.Node.means in
    let v = c.in-Some.elements.now in
    omega (arith, v.ok.0, c.saturating_sub.ensures, shifted_in-numeral f c.args.token.now v.items (f c.args.container.now) c.in-Some.ensures.value c.in-Some-index_of.index c.in-Some-index_of.ensures)

pub returns-in-None : goal.returns-in-None
returns-in-None g c =
    let f = g.T.Node.means in
    let v = c.in-Some.elements.now in
    let short : length v.items < 2 ^ 64 = omega (arith, v.small, v.ok.0) in
    sym (shifted_in-none f c.args.token.now v.items (f c.args.container.now) c.in-Some.ensures.value short c.in-None.ensures)
