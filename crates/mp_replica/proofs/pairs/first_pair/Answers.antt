use Rattle.std.proofs.Common.{[], IsTrue, sym, ◌∙◌, true≢false}
use Rattle.std.specs.BTreeSet.{contains}
use Rattle.mp_tree.proofs.Facts.{Contains-nil}
use Rattle.mp_tree.proofs.Passed.{Passed-end, Passed-next, Passed-step}
use Rattle.mp_replica.specs.PatchLog.{DoClash, identity_cmp, stored_in}
use Rattle.mp_replica.proofs.PairsFound.{do_clash, none_more_among, tells_clash}
use Rattle.mp_replica.proofs.pairs.first_pair.Goals as goal
use Rattle.mp_replica.proofs.pairs.first_pair.Goals.{else-contains-via-then-contains+then-contains-2+else-is_some, else-contains-via-then-contains+else-contains-2, else-contains-via-else-contains}

pub loop-pair-init : goal.loop-pair-init
loop-pair-init c = record {
  passed = [];
  all = sym (c.into_iter-pair-iterator.ensures.into_iter_gives ∙ c.iter-pair-items.ensures.rest);
  holds = λ i j at. absurd (Contains-nil (i, j) at);
}

pub returns-then-is_some-clause-first : goal.returns-then-is_some-clause-first
returns-then-is_some-clause-first c =
    let inv = c.loop-pair.invariant in
    record {
      before = inv.passed;
      rest = c.next.new.self;
      parts = Passed-next inv c.in-Some.ensures.steps;
      chosen_first = sym c.contains.ensures ∙ c.if-contains.true;
      chosen_second = sym c.contains-then-contains.ensures ∙ c.if-contains-2.true;
      clash = (tells_clash c.clashing.result (λ two. do_clash) c.clashing.ensures).0 (sym c.is_some.ensures ∙ c.if-is_some.true);
      none_before = inv.holds;
    }

pub returns-clause-first : goal.returns-clause-first
returns-clause-first c = Passed-end c.loop-pair.invariant c.in-None.ensures.steps.0

pub loop-pair-preserved : goal.loop-pair-preserved
loop-pair-preserved c =
    let inv = c.loop-pair.invariant in
    let stored = stored_in c.args.patches.now.entries in
    let k = c.in-Some.pair.now in
    let never : ¬ (IsTrue (contains identity_cmp c.args.chosen.now k.0) × IsTrue (contains identity_cmp c.args.chosen.now k.1) × DoClash stored k.0 k.1) = elim c.else-contains.branch [
      | else-contains-via-then-contains+then-contains-2+else-is_some w ↦ λ all. true≢false (sym ((tells_clash w.clashing.result (λ two. do_clash) w.clashing.ensures).1 all.2) ∙ sym w.is_some.ensures ∙ w.if-is_some.false)
      | else-contains-via-then-contains+else-contains-2 w ↦ λ all. true≢false (sym (w.contains-then-contains.ensures ∙ all.1) ∙ w.if-contains-2.false)
      | else-contains-via-else-contains w ↦ λ all. true≢false (sym (c.contains.ensures ∙ all.0) ∙ w.if-contains.false)
    ] in
    Passed-step inv c.in-Some.ensures.steps (none_more_among stored inv.passed k c.args.chosen.now never inv.holds)
