use Rattle.std.proofs.Common.{sym, ◌∙◌, subst, arith}
use Rattle.mp_replica.specs.PatchLog.{Begins}
use Rattle.mp_replica.proofs.Shown.{begins}
use Rattle.mp_replica.proofs.patch_log.PatchLog.decide.Goals as goal

pub returns-clause-begins : goal.returns-clause-begins
returns-clause-begins c =
    let begun = begins c.self.inside.epoch c.self.inside.start c.self.inside.stored c.args.chosen.now c.in_ok-start.start c.new.result c.in_default-first_missing.ensures c.in_ok-start.ensures
    (c.new.ensures.epoch ∙ (let next = c.in-Some.ensures in omega arith)) c.new.ensures.start c.new.ensures.stored in
    subst (λ after. Begins c.args.self.now c.args.chosen.now after) (sym c.new-2.view_is) (subst (λ before. Begins before c.args.chosen.now c.new.result) c.self.view_is begun)
