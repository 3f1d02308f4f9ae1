use Rattle.std.proofs.Common.{◌≡◌, Some, MatchResult, IsTrue, IsFalse, take, arith, rules, sym, ap, ◌∙◌, subst}
use Rattle.mp_pointer.specs.Difference.{DifferOnlyAt}
use Rattle.mp_pointer.specs.Part.{part}
use Rattle.mp_pointer.specs.Spelling.{Tokens}
use Rattle.mp_patch.specs.declared.fault.Cause.TheVariants.{TooDeep}
use Rattle.mp_patch.specs.declared.fault.Refusal.TheVariants.{By}
use Rattle.mp_patch.proofs.Operations.Bounds.{replaced-bounds}
use Rattle.mp_patch.proofs.Operations.SingleSteps.{replaced, set_means}
use Rattle.mp_patch.proofs.steps.replace.Goals as goal
use Rattle.mp_pointer.proofs.Facts.{to_end}

pub returns-in-Some-clause-answer : goal.returns-in-Some-clause-answer
returns-in-Some-clause-answer g c =
    let f = g.T.Node.means in
    let path = c.args.path.now in
    let r = c.in-Some.outcome in
    let fits = c.admit-fits.result in
    let admits = c.admit-fits.ensures in
    let all : take c.len-2.result path ≡ path = ap (λ n. take n path) c.len-2.ensures ∙ to_end path in
    let edits = c.in-Some.ensures in
    let set : MatchResult r (λ _. IsTrue fits × (edits.edited.left.now ≡ c.args.value)) (λ fault. IsFalse fits × (fault ≡ By TooDeep)) = search rules in
    let will : f edits.after ≡ f edits.edited.left.now = ap f (sym edits.edited.leaves) in
    replaced r fits path (f c.args.value) (f c.args.doc.now) (f c.edit_part_in.new.node) (f edits.before) (f edits.edited.left.now)
    (λ h. omega (arith, admits.fits.0 h, c.len.ensures)) (λ h. admits.fits.1 (omega (arith, h, c.len.ensures)))
    (ap (part (f c.args.doc.now)) (sym all) ∙ edits.stood) (ap (part (f c.edit_part_in.new.node)) (sym all) ∙ edits.stands ∙ ap Some will)
    (subst (λ (t : Tokens). DifferOnlyAt t (f c.args.doc.now) (f c.edit_part_in.new.node)) all edits.only) (set_means f r fits edits.edited.left.now c.args.value set)

pub returns-in-Some-clause-bounds : goal.returns-in-Some-clause-bounds
returns-in-Some-clause-bounds g c =
    let f = g.T.Node.means in
    let start = f c.args.doc.now in
    let end = c.edit_part_in.new.node in
    let admits = c.admit-fits.ensures in
    replaced-bounds c.admit-fits.result c.admit-fits.new.self.most c.len.result c.args.path.now (f c.args.value) start (f end)
    c.len.ensures admits.fits.1 admits.bounds (c.requires.documents end) (admits.kept start c.requires.bounds) c.in-Some.outcome (returns-in-Some-clause-answer g c)
