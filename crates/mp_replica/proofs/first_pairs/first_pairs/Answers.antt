use Rattle.std.proofs.Common.{[], ◌∷◌, ◌++◌, false, map, sym, ◌∙◌, subst, true≢false}
use Rattle.mp_tree.proofs.Passed.{Passed-next, Passed-step}
use Rattle.mp_replica.specs.PatchLog.{seen, stored_in}
use Rattle.mp_replica.specs.Private.Pairs.{Lists}
use Rattle.mp_replica.proofs.Listing.{lists_none, lists_over, lists_pair}
use Rattle.mp_replica.proofs.first_pairs.first_pairs.Goals as goal

pub loop-pair-init : goal.loop-pair-init
loop-pair-init c =
    let stored = stored_in c.args.patches.now.entries in
    record {
      passed = [];
      all = sym (c.into_iter-pair-iterator.ensures.into_iter_gives ∙ c.iter-pair-items.ensures.rest);
      holds = subst (λ l. Lists c.args.of stored c.args.limit c.args.known.now.keys [] (map seen l) c.args.limit false) (sym c.new.ensures.items)
          (lists_none c.args.of stored c.args.limit c.args.known.now.keys c.iter-pair-items.ensures.ordered);
    }

pub loop-pair-preserved-then-is_among : goal.loop-pair-preserved-then-is_among
loop-pair-preserved-then-is_among c =
    let stored = stored_in c.args.patches.now.entries in
    let inv = c.loop-pair.invariant in
    let k = c.in-Some.pair.now in
    let was = c.loop-pair.found in
    let now = c.list_pair.new.found in
    let all = c.args.known.now.keys in
    let going = subst (Lists c.args.of stored c.args.limit all inv.passed (map seen was.pairs.items) c.loop-pair.left) c.if-found.false inv.holds in
    Passed-step inv c.in-Some.ensures.steps (lists_pair c.args.of stored c.args.limit all c.iter-pair-items.ensures.ordered inv.passed c.next.new.self k.0 k.1 (map seen was.pairs.items) c.loop-pair.left
    (Passed-next inv c.in-Some.ensures.steps) going (c.is_among.ensures.0 c.if-is_among.true) (map seen now.pairs.items) c.in_ok-left.left now.more c.in_ok-left.ensures)

pub loop-pair-preserved : goal.loop-pair-preserved
loop-pair-preserved c =
    let stored = stored_in c.args.patches.now.entries in
    let inv = c.loop-pair.invariant in
    let k = c.in-Some.pair.now in
    let was = c.loop-pair.found in
    let all = c.args.known.now.keys in
    let going = subst (Lists c.args.of stored c.args.limit all inv.passed (map seen was.pairs.items) c.loop-pair.left) c.if-found.false inv.holds in
    Passed-step inv c.in-Some.ensures.steps (subst (Lists c.args.of stored c.args.limit all (inv.passed ++ k ∷ []) (map seen was.pairs.items) c.loop-pair.left) (sym c.if-found.false)
    (lists_over c.args.of stored c.args.limit all c.iter-pair-items.ensures.ordered inv.passed c.next.new.self k.0 k.1 (map seen was.pairs.items) c.loop-pair.left (Passed-next inv c.in-Some.ensures.steps) going
    (λ among. true≢false (sym (c.is_among.ensures.1 among) ∙ c.if-is_among.false))))
