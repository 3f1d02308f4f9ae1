use Rattle.std.proofs.Common.{◌≢◌, [], sym, ◌∙◌, arith, true≢false}
use Rattle.mp_patch.proofs.Operations.Weights.{judged_removal, removable}
use Rattle.mp_patch.proofs.weighing.judge_removal.Goals as goal

pub overflow_sub-unnamed : goal.overflow_sub-unnamed
overflow_sub-unnamed g c =
    let f = g.T.Node.means in
    let deeper : c.args.path.now ≢ [] = λ root. true≢false (sym (c.is_empty.ensures.1 root) ∙ c.if-is_empty.false) in
    omega (arith, c.requires.weight, removable c.args.scale.limit (f c.args.doc.now) c.args.path.now c.name_at.result (f c.in-Some.part.now) (c.requires.documents c.args.doc.now) deeper (sym c.in-Some.ensures) c.name_at.ensures)

pub weight_of-requires : goal.weight_of-requires
weight_of-requires g c =
    let f = g.T.Node.means in
    let deeper : c.args.path.now ≢ [] = λ root. true≢false (sym (c.is_empty.ensures.1 root) ∙ c.if-is_empty.false) in
    omega (arith, c.requires.weight, removable c.args.scale.limit (f c.args.doc.now) c.args.path.now c.name_at.result (f c.in-Some.part.now) (c.requires.documents c.args.doc.now) deeper (sym c.in-Some.ensures) c.name_at.ensures)

pub returns-in-Some : goal.returns-in-Some
returns-in-Some g c =
    let f = g.T.Node.means in
    let d = c.args.doc.now in
    let deeper : c.args.path.now ≢ [] = λ root. true≢false (sym (c.is_empty.ensures.1 root) ∙ c.if-is_empty.false) in
    judged_removal c.args.scale.limit (f d) c.args.path.now _ c.name_at.result c.at_most.result (f c.in-Some.part.now) (c.requires.documents d) deeper (sym c.in-Some.ensures) c.name_at.ensures
    (omega (arith, c.requires.weight, c.weight_of.ensures, removable c.args.scale.limit (f d) c.args.path.now c.name_at.result (f c.in-Some.part.now) (c.requires.documents d) deeper (sym c.in-Some.ensures) c.name_at.ensures)) c.at_most.ensures

pub overflow_sub-unnamed-in-Some : goal.overflow_sub-unnamed-in-Some
overflow_sub-unnamed-in-Some g c =
    let f = g.T.Node.means in
    let deeper : c.args.path.now ≢ [] = λ root. true≢false (sym (c.is_empty.ensures.1 root) ∙ c.if-is_empty.false) in
    omega (arith, c.requires.weight, c.weight_of.ensures, removable c.args.scale.limit (f c.args.doc.now) c.args.path.now c.name_at.result (f c.in-Some.part.now) (c.requires.documents c.args.doc.now) deeper (sym c.in-Some.ensures) c.name_at.ensures)
