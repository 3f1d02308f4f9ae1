use Rattle.mp_patch.proofs.Operations.Bounds.{Removes-bounds}
use Rattle.mp_patch.proofs.steps.step.Goals as goal

pub returns-in_ok-remove-in-Remove-clause-bounds : goal.returns-in_ok-remove-in-Remove-clause-bounds
returns-in_ok-remove-in-Remove-clause-bounds g c =
    let m = g.T.Node.means in
    let end = c.remove.new.doc in
    Removes-bounds c.args.bound.now.most c.in-Remove.path (m c.args.doc.now) (m end) c.in_ok-remove-in-Remove.ensures.2 (c.requires.documents end) c.requires.bounds
