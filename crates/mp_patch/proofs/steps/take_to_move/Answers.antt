use Rattle.std.proofs.Common.{◌≡◌, ◌≢◌, ◌+◌, ◌≤◌, IsTrue, true≢false, refl, sym, ◌∙◌, subst}
use Rattle.std.proofs.lemmas.Result.{err_from_is_err_and}
use Rattle.std.proofs.lemmas.Bool.Decides.{Decides-at}
use Rattle.mp_tree.specs.Document.{depth, depth_limit}
use Rattle.mp_pointer.specs.Spelling.{IsProperPrefix}
use Rattle.mp_pointer.proofs.Facts.{are_same_tokens-Decides}
use Rattle.mp_patch.specs.Private.Bounds.{Bounds}
use Rattle.mp_patch.specs.Private.Within.{Fits}
use Rattle.mp_patch.proofs.Operations.Bounds.{part-bounds, Removes-bounds}
use Rattle.mp_patch.proofs.Operations.Moves.{not_moved, not_taken, stays}
use Rattle.mp_patch.proofs.steps.take_to_move.Goals as goal

pub returns-in-Some-clause-taken : goal.returns-in-Some-clause-taken
returns-in-Some-clause-taken g c =
    let m = g.T.Node.means in
    let f = c.args.origin.now in
    let t = c.args.path.now in
    let apart : ¬ IsProperPrefix f t = λ h. true≢false (sym (c.is_proper_prefix_of.ensures.1 h) ∙ c.if-is_proper_prefix_of.false) in
    let same : f ≡ t = (Decides-at _ _ c.eq.ensures (are_same_tokens-Decides f t)).0 c.if-eq.true in
    let done = stays (m c.args.doc.now) (m c.in-Some.field-0.now) f t apart same (sym c.in-Some.ensures) in
    (same, done.0, done.1, refl)

pub returns-in_err-part-clause-taken : goal.returns-in_err-part-clause-taken
returns-in_err-part-clause-taken g c =
    let m = g.T.Node.means in
    let f = c.args.origin.now in
    let t = c.args.path.now in
    let apart : ¬ IsProperPrefix f t = λ h. true≢false (sym (c.is_proper_prefix_of.ensures.1 h) ∙ c.if-is_proper_prefix_of.false) in
    let other : f ≢ t = λ h. true≢false (sym ((Decides-at _ _ c.eq.ensures (are_same_tokens-Decides f t)).1 h) ∙ c.if-eq.false) in
    let p = err_from_is_err_and c.from_residual.result c.from_residual.ensures.1 in
    rw (p.1, p.2) (not_taken m c.in_err-part.field-0.0 f t (m c.args.doc.now) (m c.remove.new.doc) (not_moved c.in_err-part.field-0.0 f t (m c.args.doc.now) (m c.remove.new.doc) (m c.remove.new.doc) apart other c.in_err-part.ensures))

pub returns-clause-taken : goal.returns-clause-taken
returns-clause-taken g c =
    let m = g.T.Node.means in
    let f = c.args.origin.now in
    let t = c.args.path.now in
    let apart : ¬ IsProperPrefix f t = λ h. true≢false (sym (c.is_proper_prefix_of.ensures.1 h) ∙ c.if-is_proper_prefix_of.false) in
    let other : f ≢ t = λ h. true≢false (sym ((Decides-at _ _ c.eq.ensures (are_same_tokens-Decides f t)).1 h) ∙ c.if-eq.false) in
    let fits : Fits c.admit_part-fits.result t (m c.in_ok-part.part) = subst (λ n. (IsTrue c.admit_part-fits.result → n + depth (m c.in_ok-part.part) ≤ depth_limit) × (n + depth (m c.in_ok-part.part) ≤ depth_limit → IsTrue c.admit_part-fits.result)) c.len-2.ensures c.admit_part-fits.ensures.fits in
    (apart, other, c.in_ok-part.ensures.1, c.in_ok-part.ensures.2, fits)

-- the part is as much less deep than the document as it stood below it
pub admit_part-fits-requires-clause-part : goal.admit_part-fits-requires-clause-part
admit_part-fits-requires-clause-part g c =
    let m = g.T.Node.means in
    let most = c.args.bound.now.most in
    let x = m c.in_ok-part.part in
    subst (λ n. Bounds most n x) (sym c.len.ensures) (part-bounds most c.args.origin.now (m c.args.doc.now) x c.in_ok-part.ensures.1 c.requires.bounds)

pub admit_part-fits-requires-clause-rest : goal.admit_part-fits-requires-clause-rest
admit_part-fits-requires-clause-rest g c =
    let m = g.T.Node.means in
    let left = c.remove.new.doc in
    Removes-bounds c.args.bound.now.most c.args.origin.now (m c.args.doc.now) (m left) c.in_ok-part.ensures.2 (c.requires.documents left) c.requires.bounds
