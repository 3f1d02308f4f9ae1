use Rattle.std.proofs.Common.{[], ◌∷◌, ◌++◌, Some, option_map, string_bytes, sym, ap, ◌∙◌, Bor, arith}
use Rattle.mp_tree.specs.Document.{find}
use Rattle.mp_tree.specs.View.{members_by}
use Rattle.mp_tree.proofs.Facts.{lent_value, looked_up-by}
use Rattle.mp_merge.specs.Private.Edits.{AreEdits, admitted_of, lists_of}
use Rattle.mp_merge.proofs.Rewritings.SomeRewriting.{some_edits}
use Rattle.mp_merge.proofs.Rewritings.Within.{passes_over}
use Rattle.mp_merge.proofs.Rewritings.Walk.{all_edits, both_maps, edits_after_one, renamed}
use Rattle.mp_merge.proofs.Collections.Members.{next_change_by, pass_change_by, no_changes_by}
use Rattle.mp_merge.proofs.rewriting.+push_edits.Goals as goal

pub push_edits-returns-in-Some-Some-clause-edits : goal.push_edits-returns-in-Some-Some-clause-edits
push_edits-returns-in-Some-Some-clause-edits g t c =
    let f = g.T.Node.means in
    let both = c.in-Some-Some in
    let target = ap (option_map (λ (v : Bor _). f v.now)) c.in-Some.is ∙ ap Some both.ensures'.value in
    both_maps _ _ _ _ _ _ _ _ both.ensures.value target c.in_ok-push.ensures.ok c.in_ok-push_member_edits.ensures.edits

pub push_member_edits-push_edits-requires : goal.push_member_edits-push_edits-requires
push_member_edits-push_edits-requires g t c κs within =
    let next = next_change_by g.T.Node.means c.requires.documents c.loop-name.invariant.changes c.in-Some.ensures.steps in
    let no_deeper = next.holds.1 in (omega (arith, c.decreases), within)

pub push_member_edits-loop-name-preserved : goal.push_member_edits-loop-name-preserved
push_member_edits-loop-name-preserved g t c =
    let f = g.T.Node.means in
    let good = c.requires.documents in
    let l = c.loop-name in
    let s = c.args.path.now in
    let n = string_bytes c.in-Some.name.now in
    let p = f c.in-Some.change.now in
    let entries = c.args.entries.now.entries in
    let value = c.get-value.result in
    let found = looked_up-by f good entries c.as_str.ensures.value c.get-value.ensures.value in
    let grew = renamed (admitted_of l.found) (admitted_of c.push_edits.new.found) l.path s c.as_str-in-loop-name.result.now n p (option_map (λ (v : Bor _). f v.now) value) (find n (members_by f entries))
    l.invariant.path c.as_str-in-loop-name.ensures.value (lent_value f value ∙ sym found) c.in_ok-push_edits.ensures.edits in
    record {
      path = c.in_ok-push_edits.ensures.path ∙ l.invariant.path;
      changes = pass_change_by f good l.invariant.changes c.in-Some.ensures.steps (λ map rest. (edits_after_one _ _ _ _ _ (members_by f c.next.new.self) _ _ _ rest.0 grew, let deep = rest.1 in omega arith));
    }

pub push_member_edits-returns-clause-edits : goal.push_member_edits-returns-clause-edits
push_member_edits-returns-clause-edits g t c = all_edits _ _ _ _ _ ((no_changes_by g.T.Node.means c.loop-name.invariant.changes c.in-None.ensures.steps.0).0)

pub push_edits-returns-then-is_over-clause-edits : goal.push_edits-returns-then-is_over-clause-edits
push_edits-returns-then-is_over-clause-edits g t c =
    let f = g.T.Node.means in
    let found = c.args.found.now in
    let s = c.args.path.now ++ c.args.name.now ∷ [] in
    let p = f c.args.change.now in
    let v = option_map (λ (x : Bor _). f x.now) c.args.value in
    let some = some_edits p s v in
    passes_over (lists_of found) found.budget (AreEdits s p v) (c.is_over.ensures.0 c.if-is_over.true) some.0 some.1
