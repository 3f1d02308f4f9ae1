use Rattle.std.proofs.Common.{◌≡◌, [], ◌∷◌, ◌++◌, string_bytes, Some, refl, ap₂, ◌∙◌, arith}
use Rattle.std.proofs.lemmas.Result.{on_ok_weaker}
use Rattle.mp_tree.specs.Document.{find}
use Rattle.mp_tree.specs.View.{members_by}
use Rattle.mp_tree.proofs.Facts.{looked_up-by}
use Rattle.mp_merge.specs.Private.Budgets.{add_each}
use Rattle.mp_merge.specs.Private.Clashes.{Passed, WalksClashes, report, reported_of}
use Rattle.mp_merge.specs.Private.Edits.{NotBothMaps}
use Rattle.mp_merge.proofs.Budgets.{each_none, each_both}
use Rattle.mp_merge.proofs.Clashes.Conflicts.{walks_one}
use Rattle.mp_merge.proofs.Clashes.Reported.{reported_after_one}
use Rattle.mp_merge.proofs.Clashes.ByName.{not_both_first, not_both_second, no_map}
use Rattle.mp_merge.proofs.Collections.Growth.{grew_by_all, grew_by_none}
use Rattle.mp_merge.proofs.Collections.Members.{next_change_by, pass_change_by, no_changes_by}
use Rattle.mp_merge.proofs.comparing.+push_clashes.Goals as goal
use Rattle.mp_merge.proofs.comparing.+push_clashes.Goals.{push_clashes-in_default-via-in-Some+in_default, push_clashes-in_default-via-in_default}
use Rattle.mp_pointer.proofs.Facts.{back_again}

pub push_clashes-returns-in_default-clause-found : goal.push_clashes-returns-in_default-clause-found
push_clashes-returns-in_default-clause-found g t c =
    let p = g.T.Node.means c.args.p.now in
    let q = g.T.Node.means c.args.q.now in
    let never : NotBothMaps p (Some q) = elim c.in_default.branch [
      | push_clashes-in_default-via-in-Some+in_default w ↦ not_both_second p q (no_map q w.in_default.ensures'.value)
      | push_clashes-in_default-via-in_default w ↦ not_both_first p (Some q) (no_map p w.in_default.ensures.value)
    ] in
    on_ok_weaker c.push_clash.result (λ grew. (grew.0, grew.1, walks_one _ p q grew.0 never grew.2)) c.push_clash.ensures

pub push_member_clashes-push_clashes-requires : goal.push_member_clashes-push_clashes-requires
push_member_clashes-push_clashes-requires g t c κs within =
    let next = next_change_by g.T.Node.means c.requires.documents c.loop-name.invariant.changes c.in-Some.ensures.steps in
    let no_deeper = next.holds.1 in (omega (arith, c.decreases), within)

pub push_member_clashes-loop-name-preserved-in-Some-get : goal.push_member_clashes-loop-name-preserved-in-Some-get
push_member_clashes-loop-name-preserved-in-Some-get g t c =
    let f = g.T.Node.means in
    let good = c.requires.documents in
    let l = c.loop-name in
    let s = c.args.path.now in
    let n = string_bytes c.in-Some.name.now in
    let others = members_by f c.args.others.now.entries in
    let found = looked_up-by f good c.args.others.now.entries c.as_str.ensures.value c.in-Some-get.ensures.value in
    let pushed : c.push.new.self ≡ s ++ n ∷ [] = c.in_ok-push.ensures.ok ∙ ap₂ (λ w k. w ++ k ∷ []) l.invariant.path c.as_str-in-Some-get.ensures.value in
    let grew : Passed l.found c.push_clashes.new.found (WalksClashes (s ++ n ∷ []) (f c.in-Some.change.now) (find n others)) = rw (found, ← pushed) c.in_ok-push_clashes.ensures.found in
    record {
      path = back_again s n c.push.new.self c.push_clashes.new.path c.pop.new.self pushed c.in_ok-push_clashes.ensures.path c.pop.ensures;
      changes = pass_change_by f good l.invariant.changes c.in-Some.ensures.steps (λ map rest. (reported_after_one _ _ _ _ _ (members_by f c.next.new.self) _ _ _ rest.0 grew, let deep = rest.1 in omega arith));
    }

pub push_member_clashes-loop-name-preserved : goal.push_member_clashes-loop-name-preserved
push_member_clashes-loop-name-preserved g t c =
    let f = g.T.Node.means in
    let good = c.requires.documents in
    let l = c.loop-name in
    let s = c.args.path.now in
    let n = string_bytes c.in-Some.name.now in
    let others = members_by f c.args.others.now.entries in
    let absent = looked_up-by f good c.args.others.now.entries c.as_str.ensures.value c.in_default.ensures.value in
    let grew = grew_by_none (add_each report) (each_none report) (each_both report) (reported_of l.found) (WalksClashes (s ++ n ∷ []) (f c.in-Some.change.now) (find n others)) (rw absent refl) in
    record {
      path = l.invariant.path;
      changes = pass_change_by f good l.invariant.changes c.in-Some.ensures.steps (λ map rest. (reported_after_one _ _ _ _ _ (members_by f c.next.new.self) _ _ _ rest.0 grew, let deep = rest.1 in omega arith));
    }

pub push_member_clashes-returns-clause-found : goal.push_member_clashes-returns-clause-found
push_member_clashes-returns-clause-found g t c = grew_by_all (add_each report) (each_none report) (each_both report) _ _ _ ((no_changes_by g.T.Node.means c.loop-name.invariant.changes c.in-None.ensures.steps.0).0)
