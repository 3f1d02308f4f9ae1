use Rattle.std.proofs.Common.{◌*◌, ◌+◌}
use Rattle.mp_tree.specs.Document.{depth, members_depth}
use Rattle.mp_tree.specs.View.{members_by}
use Rattle.mp_merge.proofs.Collections.Members.{ChangesLeftBy}
use Rattle.mp_merge.proofs.Joins.Reunited.{UnitesOn}
use Rattle.mp_merge.proofs.joining.+unite.Given as goal

abbrev pub decreases-unite : goal.decreases-unite
decreases-unite g l = 3 * depth (g.T.Node.means l.patch.now)

abbrev pub decreases-unite_entry : goal.decreases-unite_entry
decreases-unite_entry g l = 3 * depth (g.T.Node.means l.change.now) + 1

abbrev pub decreases-unite_members : goal.decreases-unite_members
decreases-unite_members g l = 3 * members_depth (members_by g.T.Node.means l.changes.now.entries) + 2

-- the changes that are left, united with the entries as they are, give the result, and a try that stops here can be made again
abbrev pub invariant-unite_members-loop-name : goal.invariant-unite_members-loop-name
invariant-unite_members-loop-name g l =
    let f = g.T.Node.means in
    ChangesLeftBy f l.name-iterator (UnitesOn (members_by f l.initial.entries.entries) (members_by f l.changes.entries) (members_by f l.entries.entries))
