use Rattle.std.proofs.Common.{sym, arith}
use Rattle.mp_pointer.proofs.Facts.{part-weight}
use Rattle.mp_patch.proofs.working.work_of_copy.Goals as goal

pub weight_of-copied-requires : goal.weight_of-copied-requires
weight_of-copied-requires g c =
    let f = g.T.Node.means in
    omega (arith, c.requires.weight, part-weight c.args.origin.now (f c.args.doc.now) (f c.in-Some.part.now) (c.requires.documents c.args.doc.now) (sym c.in-Some.ensures))
