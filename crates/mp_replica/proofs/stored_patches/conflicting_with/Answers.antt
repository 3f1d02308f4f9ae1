use Rattle.std.proofs.Common.{◌⊎◌, ◌++◌, ◌∷◌, [], inl, inr, refl, sym, ◌∙◌, subst, true≢false}
use Rattle.std.specs.List.{Contains}
use Rattle.mp_tree.specs.View.{document}
use Rattle.mp_tree.proofs.Passed.{Passed-end, Passed-step}
use Rattle.mp_merge.specs.Clash.{Compatible}
use Rattle.mp_replica.specs.PatchLog.{stored_in}
use Rattle.mp_replica.specs.Private.StoredPatches.{AreConflictingWith}
use Rattle.mp_replica.proofs.Conflicting.{Conflicted, all_found}
use Rattle.mp_replica.proofs.Gathered.{AreGathered, none_gathered, none_more_gathered, one_gathered}
use Rattle.mp_replica.proofs.stored_patches.conflicting_with.Goals as goal
use Rattle.mp_replica.proofs.stored_patches.conflicting_with.Goals.{then-contains-via-then-contains, then-contains-via-else-contains+then-not-compatible}

pub loop-other-init : goal.loop-other-init
loop-other-init c = record {
  passed = [];
  all = sym (c.into_iter-other-iterator.ensures.into_iter_gives ∙ c.iter-other-items.ensures.rest);
  holds = rw c.new-found.ensures.items (none_gathered (Conflicted (document c.args.patch.now) c.args.known.now));
}

pub loop-other-preserved-in-loop-other : goal.loop-other-preserved-in-loop-other
loop-other-preserved-in-loop-other c =
    let p = document c.args.patch.now in
    let known = c.args.known.now in
    let i = c.in-Some.other.now in
    let d = c.in-Some.stored.now in
    let inv = c.loop-other.invariant in
    let why : Contains known i ⊎ (¬ Compatible p (document d)) = elim c.then-contains.branch [
      | then-contains-via-then-contains w ↦ inl ((c.in_ok-before.ensures i).0 (sym c.contains.ensures ∙ w.if-contains.true))
      | then-contains-via-else-contains+then-not-compatible w ↦ inr (λ agree. true≢false (sym (w.compatible.ensures.1 agree) ∙ w.if-not-compatible.true))
    ] in
    Passed-step inv c.in-Some.ensures.steps
    (subst (AreGathered (Conflicted p known) (inv.passed ++ (i, d) ∷ [])) (sym c.in_ok-push.ensures.items) (one_gathered (Conflicted p known) inv.passed (i, d) c.loop-other.found.items inv.holds i (refl, why) (λ j is. is.0)))

pub loop-other-preserved : goal.loop-other-preserved
loop-other-preserved c =
    let known = c.args.known.now in
    let i = c.in-Some.other.now in
    let inv = c.loop-other.invariant in
    let out : ¬ Contains known i = λ at. true≢false (sym (c.contains.ensures ∙ (c.in_ok-before.ensures i).1 at) ∙ c.if-contains.false) in
    Passed-step inv c.in-Some.ensures.steps
    (none_more_gathered (Conflicted (document c.args.patch.now) known) inv.passed (i, c.in-Some.stored.now) c.loop-other.found.items inv.holds (λ j is. elim is.1 [
      | inl here ↦ out here
      | inr clash ↦ clash (c.compatible.ensures.0 c.if-not-compatible.false)
    ]))

pub returns : goal.returns
returns c =
    let es = c.args.patches.now.entries in
    let p = document c.args.patch.now in
    let found = Passed-end c.loop-other.invariant c.in-None.ensures.steps.0 in
    subst (AreConflictingWith (stored_in es) c.args.identity p c.args.known.now) (sym c.in_ok-push-2.ensures.items)
    (all_found es p c.args.known.now c.loop-other.found.items c.args.identity c.iter-other-items.ensures.ordered found)
