use Rattle.std.proofs.Common.{◌≡◌, ◌*◌, ◌≤◌, suc}
use Rattle.mp_tree.specs.Document.{depth, members_depth}
use Rattle.mp_tree.specs.View.{members_by}
use Rattle.mp_merge.specs.Private.Clashes.{reported_of}
use Rattle.mp_merge.proofs.Clashes.Reported.{IsReportedRest}
use Rattle.mp_merge.proofs.Collections.Members.{ChangesLeftBy}
use Rattle.mp_merge.proofs.comparing.+push_clashes.Given as goal

-- no value of a type parameter has a depth of its own: the document that it means has one
abbrev pub decreases-push_clashes : goal.decreases-push_clashes
decreases-push_clashes g l = 2 * depth (g.T.Node.means l.p.now)

abbrev pub decreases-push_member_clashes : goal.decreases-push_member_clashes
decreases-push_member_clashes g l = suc (2 * members_depth (members_by g.T.Node.means l.changes.now.entries))

-- the clashes with the changes that are left, added to those that are there, are the clashes with all
abbrev pub invariant-push_member_clashes-loop-name : goal.invariant-push_member_clashes-loop-name
invariant-push_member_clashes-loop-name g l =
    let f = g.T.Node.means in
    let changes = members_by f l.changes.entries in record {
      path : l.path ≡ l.initial.path;
      changes : ChangesLeftBy f l.name-iterator (λ left. IsReportedRest (reported_of l.initial.found) (reported_of l.found) l.initial.path changes left (members_by f l.others.entries) × (members_depth left ≤ members_depth changes));
    }
