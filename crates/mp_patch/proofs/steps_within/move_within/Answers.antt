use Rattle.std.proofs.Common.{Ok, Err, Some, None, IfSome, IsTrue, length, refl, subst, arith}
use Rattle.std.proofs.lemmas.Result.{err_from_is_err_and}
use Rattle.mp_pointer.proofs.Facts.{part-document}
use Rattle.mp_patch.specs.Operation.{add}
use Rattle.mp_patch.specs.Private.Bounds.{Bounds}
use Rattle.mp_patch.specs.Private.Within.{Judges, TakesToMove}
use Rattle.mp_patch.proofs.Operations.Bounds.{added-bounds}
use Rattle.mp_patch.proofs.Operations.Moves.{moved, moved_too_large, moved_within, refused_within}
use Rattle.mp_patch.proofs.Operations.Weights.{Removes-weight}
use Rattle.mp_patch.proofs.Operations.Works.{unmoved}
use Rattle.mp_patch.proofs.steps_within.move_within.Goals as goal

pub overflow_sub-unnamed : goal.overflow_sub-unnamed
overflow_sub-unnamed g c =
    let m = g.T.Node.means in
    let d = c.args.doc.now in
    let f = c.args.origin.now in
    let left = c.take_to_move.new.doc in
    let took = subst (λ o. TakesToMove m (Ok o) (m d) f c.args.path.now (m left)) c.in-Some.is c.in_ok-part.ensures.taken in
    omega (arith, c.requires.weight, Removes-weight f (m d) (m left) (m c.in-Some.part) c.name_at-named.result (c.requires.documents d) (c.requires.documents left) c.name_at-named.ensures took.2 took.3)

pub judge_arrival-requires-clause-weight : goal.judge_arrival-requires-clause-weight
judge_arrival-requires-clause-weight g c =
    let m = g.T.Node.means in
    let d = c.args.doc.now in
    let f = c.args.origin.now in
    let left = c.take_to_move.new.doc in
    let took = subst (λ o. TakesToMove m (Ok o) (m d) f c.args.path.now (m left)) c.in-Some.is c.in_ok-part.ensures.taken in
    omega (arith, c.requires.weight, Removes-weight f (m d) (m left) (m c.in-Some.part) c.name_at-named.result (c.requires.documents d) (c.requires.documents left) c.name_at-named.ensures took.2 took.3)

pub returns-in_default-judge_arrival-clause-answer : goal.returns-in_default-judge_arrival-clause-answer
returns-in_default-judge_arrival-clause-answer g c =
    let m = g.T.Node.means in
    let d = c.args.doc.now in
    let f = c.args.origin.now in
    let t = c.args.path.now in
    let x = m c.in-Some.part in
    let limit = c.args.scale.limit in
    let left = c.take_to_move.new.doc in
    let took = subst (λ o. TakesToMove m (Ok o) (m d) f t (m left)) c.in-Some.is c.in_ok-part.ensures.taken in
    let weighs = Removes-weight f (m d) (m left) x c.name_at-named.result (c.requires.documents d) (c.requires.documents left) c.name_at-named.ensures took.2 took.3 in
    let judges = c.judge_arrival.ensures x (part-document f (m d) x (c.requires.documents d) took.2) (omega (arith, c.requires.weight, weighs)) took.4 in
    let none : Judges limit None (m left) (add t x) = subst (λ r. Judges limit r (m left) (add t x)) c.in_default-judge_arrival.is judges in
    moved_too_large c.args.scale f t x (m d) (m left) (c.requires.documents d) took.0 took.1 took.2 took.3 none

pub returns-in_err-put-clause-answer : goal.returns-in_err-put-clause-answer
returns-in_err-put-clause-answer g c =
    let m = g.T.Node.means in
    let d = c.args.doc.now in
    let f = c.args.origin.now in
    let t = c.args.path.now in
    let left = m c.take_to_move.new.doc in
    let end = m c.put.new.doc in
    let took = subst (λ o. TakesToMove m (Ok o) (m d) f t left) c.in-Some.is c.in_ok-part.ensures.taken in
    let p = err_from_is_err_and c.from_residual-in_err-put.result c.from_residual-in_err-put.ensures.1 in
    let fault = c.in_err-put.field-0.0 in
    rw (p.1, p.2) (refused_within c.args.scale fault (m d) _ end end (moved f t (m c.in-Some.part) (m d) left (c.requires.documents d) took.0 took.1 took.2 took.3 (Err fault) end c.in_err-put.ensures))

pub returns-clause-answer : goal.returns-clause-answer
returns-clause-answer g c =
    let m = g.T.Node.means in
    let d = c.args.doc.now in
    let f = c.args.origin.now in
    let t = c.args.path.now in
    let x = m c.in-Some.part in
    let limit = c.args.scale.limit in
    let left = c.take_to_move.new.doc in
    let took = subst (λ o. TakesToMove m (Ok o) (m d) f t (m left)) c.in-Some.is c.in_ok-part.ensures.taken in
    let weighs = Removes-weight f (m d) (m left) x c.name_at-named.result (c.requires.documents d) (c.requires.documents left) c.name_at-named.ensures took.2 took.3 in
    let judges = c.judge_arrival.ensures x (part-document f (m d) x (c.requires.documents d) took.2) (omega (arith, c.requires.weight, weighs)) took.4 in
    let next : Judges limit (Some c.in-Some-judge_arrival.next) (m left) (add t x) = subst (λ r. Judges limit r (m left) (add t x)) c.in-Some-judge_arrival.is judges in
    moved_within c.args.scale f t x (m d) (m left) (c.requires.documents d) took.0 took.1 took.2 took.3 c.in-Some-judge_arrival.next c.shifted_after-removal.result c.shifted_from.result (m c.put.new.doc) next c.shifted_after-removal.ensures c.shifted_from.ensures c.in_ok-put.ensures c.after.result c.after.ensures

pub returns-clause-bounds : goal.returns-clause-bounds
returns-clause-bounds g c =
    let m = g.T.Node.means in
    let f = c.args.origin.now in
    let t = c.args.path.now in
    let left = m c.take_to_move.new.doc in
    let end = c.put.new.doc in
    let most = c.take_to_move.new.bound.most in
    let took = subst (λ o. TakesToMove m (Ok o) (m c.args.doc.now) f t left) c.in-Some.is c.in_ok-part.ensures.taken in
    let fits = subst (λ o. IfSome o (λ x. IsTrue x.1 → Bounds most (length t) (m x.0))) c.in-Some.is c.in_ok-part.ensures.fits in
    added-bounds c.in-Some.fits most (length t) t (m c.in-Some.part) left (m end) refl took.4.1 fits (c.requires.documents end) c.in_ok-part.ensures.bounds (Ok tt) c.in_ok-put.ensures

pub returns-in_default-clause-answer : goal.returns-in_default-clause-answer
returns-in_default-clause-answer g c =
    let m = g.T.Node.means in
    let d = c.args.doc.now in
    let end = c.take_to_move.new.doc in
    let stays = subst (λ o. TakesToMove m (Ok o) (m d) c.args.origin.now c.args.path.now (m end)) c.in_default.is c.in_ok-part.ensures.taken in
    unmoved c.args.scale (m d) (m end) c.args.origin.now c.args.path.now stays.0 stays.1 stays.2 stays.3 c.requires.weight c.unchanged.result c.unchanged.ensures
