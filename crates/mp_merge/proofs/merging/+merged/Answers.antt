use Rattle.std.proofs.Common.{string_bytes, refl, sym, ap, ◌∙◌, rules, arith}
use Rattle.std.proofs.lemmas.Bool.{iff_false}
use Rattle.std.proofs.lemmas.Result.{on_ok_weaker}
use Rattle.mp_tree.specs.Document.{find, without, members_depth}
use Rattle.mp_tree.specs.View.{members_by}
use Rattle.mp_tree.proofs.Facts.{IsMap-by, looked_up-by, put-by, removed-by}
use Rattle.mp_merge.specs.Application.{set_or_remove, merge_patch, merge_patch_members}
use Rattle.mp_merge.proofs.Application.ByName.{merge_patch_members-step, set_or_remove-other}
use Rattle.mp_merge.proofs.Collections.Members.{next_change_by, pass_change_by, no_changes_by, only}
use Rattle.mp_merge.proofs.merging.+merged.Goals as goal

pub change_entry-returns-then-is_null : goal.change_entry-returns-then-is_null
change_entry-returns-then-is_null g t c =
    let f = g.T.Node.means in
    let n = string_bytes c.args.name in
    let old = c.args.entries.now in
    let ts = members_by f old.entries in
    removed-by f c.requires.documents c.as_str.result.now old c.remove.new.self c.remove.ensures.updates ∙ ap (λ k. without k ts) c.as_str.ensures.value
    ∙ ap (λ p. set_or_remove n p (merge_patch (find n ts) p) ts) (sym (c.is_null.ensures.0 c.if-is_null.true))

pub change_entry-returns-in-Some : goal.change_entry-returns-in-Some
change_entry-returns-in-Some g t c =
    let f = g.T.Node.means in
    let good = c.requires.documents in
    let p = f c.args.change in
    let w = c.change_value.new.value in
    let stood = looked_up-by f good c.args.entries.now.entries c.as_str-2.ensures.value c.in-Some.ensures.value in
    on_ok_weaker c.change_value.result
    (λ is. put-by f good c.args.entries.now (c.get_mut.follows.lender w) w refl c.as_str-2.ensures.value (is ∙ ap (λ t. merge_patch t p) (sym stood)) ((c.get_mut.follows.holds w).3 (search rules))
    ∙ sym (set_or_remove-other _ p _ _ (iff_false c.is_null.ensures c.if-is_null.false)))
    c.change_value.ensures

pub change_entry-returns-in_ok-insert-in-None : goal.change_entry-returns-in_ok-insert-in-None
change_entry-returns-in_ok-insert-in-None g t c =
    let f = g.T.Node.means in
    let good = c.requires.documents in
    let p = f c.args.change in
    let stood = looked_up-by f good c.args.entries.now.entries c.as_str-2.ensures.value c.in-None.ensures.value in
    put-by f good c.args.entries.now c.insert.new.self c.in_ok-merged-in-None.field-0 c.get_mut.follows.holds-at-none refl (c.in_ok-merged-in-None.ensures ∙ ap (λ t. merge_patch t p) (sym stood)) c.in_ok-insert-in-None.ensures.updates
    ∙ sym (set_or_remove-other _ p _ _ (iff_false c.is_null.ensures c.if-is_null.false))

pub merged_members-change_entry-requires : goal.merged_members-change_entry-requires
merged_members-change_entry-requires g t c κs within =
    let next = next_change_by g.T.Node.means c.requires.documents c.loop-name.invariant.changes c.in-Some.ensures.steps in
    let no_deeper = next.holds.1 in (omega (arith, c.decreases), (within, c.requires.documents))

pub merged_members-loop-name-preserved : goal.merged_members-loop-name-preserved
merged_members-loop-name-preserved g t c =
    let f = g.T.Node.means in
    let good = c.requires.documents in
    let left = members_by f c.next.new.self in
    let now = c.loop-name.entries.entries in
    record {
      can_next = tt;
      is_finite = tt;
      changes = pass_change_by f good c.loop-name.invariant.changes c.in-Some.ensures.steps
          (λ map both. (both.0 ∙ merge_patch_members-step (members_by f now) _ _ left (IsMap-by f good now) map ∙ ap (λ ms. merge_patch_members ms left) (sym c.in_ok-change_entry.ensures), let deep = both.1 in omega arith));
    }

pub merged_members-returns : goal.merged_members-returns
merged_members-returns g t c = sym ((no_changes_by g.T.Node.means c.loop-name.invariant.changes c.in-None.ensures.steps.0).0)

pub merged_member-change_entry-requires : goal.merged_member-change_entry-requires
merged_member-change_entry-requires g t c κs within =
    let one = ap (members_by g.T.Node.means) (only c.args.changes.entries _ (c.in-Some.name, c.in-Some.change) c.in-Some.ensures.removal c.requires.one) in
    let deep = ap members_depth one in (omega (arith, c.decreases, deep), (within, c.requires.documents))
