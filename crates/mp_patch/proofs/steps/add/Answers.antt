use Rattle.mp_patch.proofs.Operations.Bounds.{added-bounds}
use Rattle.mp_patch.proofs.steps.add.Goals as goal

pub returns-clause-bounds : goal.returns-clause-bounds
returns-clause-bounds g c =
    let f = g.T.Node.means in
    let start = f c.args.doc.now in
    let end = c.put.new.doc in
    let admits = c.admit-fits.ensures in
    added-bounds c.admit-fits.result c.admit-fits.new.self.most c.len.result c.args.path.now (f c.args.value) start (f end)
    c.len.ensures admits.fits.1 admits.bounds (c.requires.documents end) (admits.kept start c.requires.bounds) c.put.result c.put.ensures
