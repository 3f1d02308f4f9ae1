use Rattle.std.proofs.Common.{◌∷◌, ◌++◌, [], None, ap, map, refl, sym, ◌∙◌, subst}
use Rattle.std.proofs.lemmas.List.{map-append}
use Rattle.std.specs.List.Sorted.{IsStrictlySortedBy}
use Rattle.mp_tree.proofs.Passed.{Passed-end, Passed-next, Passed-step}
use Rattle.mp_replica.specs.PatchLog.{pair_cmp, seen, stored_in}
use Rattle.mp_replica.specs.Private.Pairs.{AreOf}
use Rattle.mp_replica.proofs.PairsFound.{none_more_of, none_of, one_more_of, one_there, pair_with}
use Rattle.mp_replica.proofs.pairs.all_pairs.Goals as goal

pub loop-pair-init : goal.loop-pair-init
loop-pair-init c = record {
  passed = [];
  all = sym (c.into_iter-pair-iterator.ensures.into_iter_gives ∙ c.iter-pair-items.ensures.rest);
  holds = subst (λ l. AreOf None (stored_in c.args.patches.now.entries) [] (map seen l)) (sym c.new-pairs.ensures.items) (none_of None (stored_in c.args.patches.now.entries));
}

pub loop-pair-preserved-in-Continue-branch-2 : goal.loop-pair-preserved-in-Continue-branch-2
loop-pair-preserved-in-Continue-branch-2 c =
    let stored = stored_in c.args.patches.now.entries in
    let inv = c.loop-pair.invariant in
    let pair = c.in-Some.pair.now in
    let was = c.loop-pair.pairs.items in
    let sorted = subst (IsStrictlySortedBy pair_cmp) (Passed-next inv c.in-Some.ensures.steps) c.iter-pair-items.ensures.ordered in
    let less = c.requires.ordered pair.0 pair.1 (one_there inv c.in-Some.ensures.steps) in
    let clashing = pair_with c.in-Some-clashing.ensures less c.in_ok-places.places.items c.in_ok-places.ensures in
    Passed-step inv c.in-Some.ensures.steps (subst (AreOf None stored (inv.passed ++ pair ∷ [])) (sym (ap (map seen) c.in_ok-push.ensures.items ∙ map-append seen was (_ ∷ [])))
    (one_more_of None stored inv.passed c.next.new.self pair.0 pair.1 (map seen was) inv.holds _ sorted refl clashing tt))

pub loop-pair-preserved : goal.loop-pair-preserved
loop-pair-preserved c =
    let inv = c.loop-pair.invariant in
    let pair = c.in-Some.pair.now in
    Passed-step inv c.in-Some.ensures.steps (none_more_of None (stored_in c.args.patches.now.entries) inv.passed c.next.new.self pair.0 pair.1 (map seen c.loop-pair.pairs.items) inv.holds (λ both. c.in_default.ensures both.1))

pub returns : goal.returns
returns c = Passed-end c.loop-pair.invariant c.in-None.ensures.steps.0
