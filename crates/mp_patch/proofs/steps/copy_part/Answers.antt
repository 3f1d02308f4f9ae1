use Rattle.std.proofs.Common.{Some, ap, inl, refl, sym, ◌∙◌}
use Rattle.mp_patch.proofs.Operations.Moves.{copied}
use Rattle.mp_patch.proofs.steps.copy_part.Goals as goal

pub returns-clause-answer : goal.returns-clause-answer
returns-clause-answer g c =
    let f = g.T.Node.means in
    let x = f c.in_ok-part-in-Some.part in
    copied c.args.origin.now c.args.path.now x (f c.args.doc.now) (sym c.in-Some.ensures ∙ ap Some (sym c.in_ok-part-in-Some.ensures.equal)) c.add.result (f c.add.new.doc) c.add.ensures.answer

pub returns-in-None-clause-answer : goal.returns-in-None-clause-answer
returns-in-None-clause-answer g c = inl (refl, sym c.in-None.ensures)
