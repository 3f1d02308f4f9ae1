use Rattle.std.proofs.Common.{[], None, sym, ◌∙◌, true≢false}
use Rattle.std.specs.List.{Contains}
use Rattle.mp_tree.proofs.Passed.{Passed-end, Passed-step}
use Rattle.mp_replica.proofs.Conflicting.{joins_others, none_of_those, one_other, one_over, within_entries}
use Rattle.mp_replica.proofs.stored_patches.join_of_others.Goals as goal

pub loop-identity-init : goal.loop-identity-init
loop-identity-init c = record {
  passed = [];
  all = sym (c.into_iter-identity-iterator.ensures.into_iter_gives ∙ c.iter-identity-items.ensures.rest);
  holds = none_of_those c.merge_laws.ensures c.args.conflicting.now;
}

pub loop-identity-preserved-else-not-grow_by : goal.loop-identity-preserved-else-not-grow_by
loop-identity-preserved-else-not-grow_by c =
    let inv = c.loop-identity.invariant in
    let i = c.in-Some.identity.now in
    let out : ¬ Contains c.args.conflicting.now i = λ at. true≢false (sym (c.contains.ensures ∙ (c.in_ok-left_out.ensures i).1 at) ∙ c.if-not-contains.true) in
    Passed-step inv c.in-Some.ensures.steps (one_other c.merge_laws.ensures c.args.patches.now.entries inv.passed i c.in-Some.patch.now c.args.conflicting.now c.loop-identity.joined c.iter-identity-items.ensures.ordered
    (within_entries inv c.in-Some.ensures.steps) out c.requires inv.holds c.grow_by.new.joined (c.grow_by.ensures.grown c.if-not-grow_by.false))

pub loop-identity-preserved : goal.loop-identity-preserved
loop-identity-preserved c =
    let inv = c.loop-identity.invariant in
    Passed-step inv c.in-Some.ensures.steps (one_over inv.passed (c.in-Some.identity.now, c.in-Some.patch.now) c.args.conflicting.now (record { joined = c.loop-identity.joined; pending = None })
    ((c.in_ok-left_out.ensures c.in-Some.identity.now).0 (sym c.contains.ensures ∙ c.if-not-contains.false)) inv.holds)

pub returns : goal.returns
returns c =
    joins_others c.args.patches.now.entries c.args.conflicting.now (record { joined = c.loop-identity.joined; pending = None }) c.iter-identity-items.ensures.ordered (Passed-end c.loop-identity.invariant c.in-None.ensures.steps.0)
