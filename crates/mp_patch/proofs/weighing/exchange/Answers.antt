use Rattle.std.proofs.Common.{sym, take, arith}
use Rattle.mp_pointer.proofs.Facts.{part-weight}
use Rattle.mp_patch.proofs.Operations.Weights.{exchanged}
use Rattle.mp_patch.proofs.weighing.exchange.Goals as goal

pub exchange_in-requires : goal.exchange_in-requires
exchange_in-requires g c =
    let f = g.T.Node.means in
    let d = c.args.doc.now in
    omega (arith, c.requires.weight, part-weight (take c.in-Some.last c.args.path.now) (f d) (f c.in-Some-part_in.container.now) (c.requires.documents d) (sym c.in-Some-part_in.ensures))

pub returns-in-Some-part_in : goal.returns-in-Some-part_in
returns-in-Some-part_in g c =
    let f = g.T.Node.means in
    let d = c.args.doc.now in
    exchanged c.exchange_in.result (f d) (f c.in-Some-part_in.container.now) c.args.path.now (take c.in-Some.last c.args.path.now) c.in-Some.token.now (c.requires.documents d) c.in-Some.ensures (sym c.in-Some-part_in.ensures) c.exchange_in.ensures
