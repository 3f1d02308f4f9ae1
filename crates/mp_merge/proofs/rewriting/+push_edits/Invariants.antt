use Rattle.std.proofs.Common.{◌≡◌, ◌*◌, ◌+◌, ◌≤◌}
use Rattle.mp_tree.specs.Document.{depth, members_depth}
use Rattle.mp_tree.specs.View.{members_by}
use Rattle.mp_merge.specs.Private.Edits.{admitted_of}
use Rattle.mp_merge.proofs.Collections.Members.{ChangesLeftBy}
use Rattle.mp_merge.proofs.Rewritings.Walk.{IsEditsRest}
use Rattle.mp_merge.proofs.rewriting.+push_edits.Given as goal

-- no value of a type parameter has a depth of its own: the document that it means has one
abbrev pub decreases-push_edits : goal.decreases-push_edits
decreases-push_edits g l = 2 * depth (g.T.Node.means l.change.now)

abbrev pub decreases-push_member_edits : goal.decreases-push_member_edits
decreases-push_member_edits g l = 2 * members_depth (members_by g.T.Node.means l.changes.now.entries) + 1

-- the edits of the changes that are left, added to those that are there, are the edits of all
abbrev pub invariant-push_member_edits-loop-name : goal.invariant-push_member_edits-loop-name
invariant-push_member_edits-loop-name g l =
    let f = g.T.Node.means in
    let changes = members_by f l.changes.entries in record {
      path : l.path ≡ l.initial.path;
      changes : ChangesLeftBy f l.name-iterator (λ left. IsEditsRest (admitted_of l.initial.found) (admitted_of l.found) l.initial.path changes left (members_by f l.entries.entries) × (members_depth left ≤ members_depth changes));
    }
