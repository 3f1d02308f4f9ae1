use Rattle.std.proofs.Common.{◌*◌, ◌+◌, ◌≤◌}
use Rattle.mp_tree.specs.Document.{depth, members_depth}
use Rattle.mp_tree.specs.View.{members_by}
use Rattle.mp_tree.specs.Private.Entries.{members}
use Rattle.mp_merge.proofs.Application.Left.{LeftSoFar}
use Rattle.mp_merge.proofs.Collections.Members.{ChangesLeftBy}
use Rattle.mp_merge.proofs.rewriting.+left_by.Given as goal

abbrev pub decreases-left_by : goal.decreases-left_by
decreases-left_by g l = 2 * depth (g.T.Node.means l.patch.now)

abbrev pub decreases-left_members : goal.decreases-left_members
decreases-left_members g l = 2 * members_depth (members_by g.T.Node.means l.changes.now.entries) + 1

-- the changes that are left, applied to the members as they are, give what all leave
abbrev pub invariant-left_members-loop-name : goal.invariant-left_members-loop-name
invariant-left_members-loop-name g l =
    let changes = members_by g.T.Node.means l.changes.entries in
    ChangesLeftBy g.T.Node.means l.name-iterator (λ left. LeftSoFar (members l.entries.entries) left changes × (members_depth left ≤ members_depth changes))
