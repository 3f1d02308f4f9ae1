use Rattle.std.proofs.Common.{Ok, IfSome, IsTrue, length, refl, subst}
use Rattle.mp_patch.specs.Private.Bounds.{Bounds}
use Rattle.mp_patch.specs.Private.Within.{TakesToMove}
use Rattle.mp_patch.proofs.Operations.Bounds.{added-bounds}
use Rattle.mp_patch.proofs.Operations.Moves.{moved}
use Rattle.mp_patch.proofs.steps.move_part.Goals as goal

pub returns-in-Some-clause-answer : goal.returns-in-Some-clause-answer
returns-in-Some-clause-answer g c =
    let m = g.T.Node.means in
    let d = c.args.doc.now in
    let f = c.args.origin.now in
    let t = c.args.path.now in
    let left = m c.take_to_move.new.doc in
    let took = subst (λ o. TakesToMove m (Ok o) (m d) f t left) c.in-Some.is c.in_ok-part.ensures.taken in
    moved f t (m c.in-Some.part) (m d) left (c.requires.documents d) took.0 took.1 took.2 took.3 c.put.result (m c.put.new.doc) c.put.ensures

pub returns-in-Some-clause-bounds : goal.returns-in-Some-clause-bounds
returns-in-Some-clause-bounds g c =
    let m = g.T.Node.means in
    let f = c.args.origin.now in
    let t = c.args.path.now in
    let left = m c.take_to_move.new.doc in
    let end = c.put.new.doc in
    let most = c.take_to_move.new.bound.most in
    let took = subst (λ o. TakesToMove m (Ok o) (m c.args.doc.now) f t left) c.in-Some.is c.in_ok-part.ensures.taken in
    let fits = subst (λ o. IfSome o (λ x. IsTrue x.1 → Bounds most (length t) (m x.0))) c.in-Some.is c.in_ok-part.ensures.fits in
    added-bounds c.in-Some.fits most (length t) t (m c.in-Some.part) left (m end) refl took.4.1 fits (c.requires.documents end) c.in_ok-part.ensures.bounds c.put.result c.put.ensures
