use Rattle.std.proofs.Common.{Some, subst}
use Rattle.mp_patch.specs.Operation.{Operation}
use Rattle.mp_patch.specs.Private.Within.{CountsWork, IsTooHeavy, Judges}
use Rattle.mp_patch.proofs.Operations.Works.{followed, too_heavy}
use Rattle.mp_patch.proofs.steps_within.step_within.Goals as goal

pub returns-in_default-judge : goal.returns-in_default-judge
returns-in_default-judge g c =
    let d = g.T.Node.means c.args.doc.now in
    let scale = c.args.scale in
    let judged = c.in_default-judge.ensures in
    record {
      answer = too_heavy scale d (g.O.StepOwned.means c.args.op) (subst (λ (o : Operation). IsTooHeavy scale.limit d o) c.as_op.ensures judged.judged);
      bounds = judged.kept d c.requires.bounds;
    }

pub returns-in_ok-step_owned-in_default : goal.returns-in_ok-step_owned-in_default
returns-in_ok-step_owned-in_default g c =
    let d = g.T.Node.means c.args.doc.now in
    let scale = c.args.scale in
    let o = g.O.StepOwned.means c.args.op in
    let end = g.T.Node.means c.step_owned.new.doc in
    let judges = subst (λ (p : Operation). Judges scale.limit (Some c.in-Some.next) d p) c.as_op.ensures c.in-Some.ensures.judged in
    let counts = subst (λ (p : Operation). CountsWork c.work_of-work.result d p) c.as_op.ensures c.work_of-work.ensures in
    let step = c.in_ok-step_owned-in_default.ensures in
    let weighs = judges end step.answer.0 step.answer.1 in
    record {
      answer = followed scale c.in-Some.next c.work_of-work.result d end o step.answer.0 step.answer.1 weighs.0 weighs.1 counts c.after.result c.after.ensures;
      bounds = step.bounds;
    }
