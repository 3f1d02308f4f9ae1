use Rattle.std.proofs.Common.{option_map, sym, ap, subst}
use Rattle.std.proofs.lemmas.Result.{IfOk-weaker}
use Rattle.mp_tree.specs.View.{document}
use Rattle.mp_tree.proofs.Facts.{IsDocument-document}
use Rattle.mp_merge.specs.Outcome.{IsOutcome}
use Rattle.mp_replica.specs.Private.StoredPatches.{pending_in}
use Rattle.mp_replica.specs.PatchLog.{Shows, stored_in}
use Rattle.mp_replica.proofs.Conflicting.{joined_now, knows_still}
use Rattle.mp_replica.proofs.Growing.{documents}
use Rattle.mp_replica.proofs.Shown.{shows_joined}
use Rattle.mp_replica.proofs.stored_patches.StoredPatches.outcome.Goals as goal

pub invariant_of-self : goal.invariant_of-self
invariant_of-self c = knows_still c.self.invariant c.settle.ensures.stays

pub invariant_of-self-2 : goal.invariant_of-self-2
invariant_of-self-2 c = knows_still c.self.invariant c.settle.ensures.stays

pub returns-clause-shows : goal.returns-clause-shows
returns-clause-shows c =
    let start = document c.args.start.now in
    let joined = c.settle.new.self.joined in
    let knows = knows_still c.self.invariant c.settle.ensures.stays in
    let now = joined_now knows (ap (pending_in c.self.inside.patches.entries) (c.settle.ensures.settled.0 c.if-not-settle.false)) in
    let all = shows_joined c.text_laws.ensures start knows.others (option_map document joined) (IsDocument-document c.args.start.now) (documents joined) now in
    IfOk-weaker c.merged.result _ _ (λ shown is. subst (λ es. Shows start (stored_in es) (document shown)) c.self.view_is (record {
      patches = knows.others;
      unclashed = knows.unclashed;
      outcome = subst (IsOutcome start knows.others) (sym is) all;
    })) c.merged.ensures
