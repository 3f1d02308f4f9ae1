use Rattle.std.proofs.Common.{◌≡◌, None, refl, sym, ap, ◌∙◌, subst, string_bytes, rules, arith}
use Rattle.std.proofs.lemmas.Bool.{iff_false}
use Rattle.mp_tree.specs.Document.{object, Members}
use Rattle.mp_tree.specs.View.{members_by}
use Rattle.mp_tree.specs.Private.Entries.{members}
use Rattle.mp_tree.proofs.Facts.{document-Members, IsMap-members, members-put}
use Rattle.mp_merge.specs.Application.{merge_patch}
use Rattle.mp_merge.proofs.Application.Left.{LeftSoFar, left_after_null, left_after_one, left_of_all}
use Rattle.mp_merge.proofs.Collections.Members.{next_change_by, pass_change_by, no_changes_by}
use Rattle.mp_merge.proofs.rewriting.+left_by.Goals as goal

pub left_members-left_by-requires : goal.left_members-left_by-requires
left_members-left_by-requires g t c κs within =
    let next = next_change_by g.T.Node.means c.requires.documents c.loop-name.invariant c.in-Some.ensures.steps in
    let no_deeper = next.holds.1 in (omega (arith, c.decreases), within)

pub left_members-loop-name-preserved-then-is_null : goal.left_members-loop-name-preserved-then-is_null
left_members-loop-name-preserved-then-is_null g t c =
    let f = g.T.Node.means in
    let l = c.loop-name in
    let all = members_by f c.args.changes.now.entries in
    pass_change_by f c.requires.documents l.invariant c.in-Some.ensures.steps
    (λ map both. (left_after_null (members l.entries.entries) _ _ _ all (IsMap-members l.entries.entries) map both.0 (c.is_null.ensures.0 c.if-is_null.true), let deep = both.1 in omega arith))

pub left_members-loop-name-preserved : goal.left_members-loop-name-preserved
left_members-loop-name-preserved g t c =
    let f = g.T.Node.means in
    let l = c.loop-name in
    let all = members_by f c.args.changes.now.entries in
    let left = members_by f c.next.new.self in
    let named : string_bytes c.in_ok-copied.copied ≡ string_bytes c.in-Some.name.now = search rules in
    let inserted = members-put l.entries c.insert.new.self c.in_ok-value.value refl named c.in_ok-value.ensures c.in_ok-insert.ensures.updates in
    pass_change_by f c.requires.documents l.invariant c.in-Some.ensures.steps
    (λ map both. (
      subst (λ (ts : Members). LeftSoFar ts left all) (sym inserted)
          (left_after_one (members l.entries.entries) _ _ _ all (IsMap-members l.entries.entries) map both.0 (iff_false c.is_null.ensures c.if-is_null.false)),
      let deep = both.1 in omega arith,
    ))

pub left_members-returns : goal.left_members-returns
left_members-returns g t c =
    let f = g.T.Node.means in
    let l = c.loop-name in
    left_of_all (members l.entries.entries) (members_by f c.args.changes.now.entries) ((no_changes_by f l.invariant c.in-None.ensures.steps.0).0)

pub left_by-returns-in_ok-left_members-in-Some : goal.left_by-returns-in_ok-left_members-in-Some
left_by-returns-in_ok-left_members-in-Some g t c =
    let left = c.in_ok-left_members-in-Some in
    document-Members left.field-0 ∙ ap object left.ensures ∙ ap (merge_patch None) (sym c.in-Some.ensures.value)
