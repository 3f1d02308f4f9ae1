use Rattle.std.proofs.Common.{◌*◌, ◌≤◌, suc}
use Rattle.mp_tree.specs.Document.{depth, members_depth}
use Rattle.mp_tree.specs.View.{members_by}
use Rattle.mp_merge.proofs.Clashes.ByName.{SameClashes}
use Rattle.mp_merge.proofs.Collections.Members.{ChangesLeftBy}
use Rattle.mp_merge.proofs.comparing.+compatible.Given as goal

-- no value of a type parameter has a depth of its own: the document that it means has one
abbrev pub decreases-are_compatible : goal.decreases-are_compatible
decreases-are_compatible g l = 2 * depth (g.T.Node.means l.p.now)

abbrev pub decreases-are_members_compatible : goal.decreases-are_members_compatible
decreases-are_members_compatible g l = suc (2 * members_depth (members_by g.T.Node.means l.changes.now.entries))

-- the clashes of the changes that are left are those of all, and they are no deeper
abbrev pub invariant-are_members_compatible-loop-name : goal.invariant-are_members_compatible-loop-name
invariant-are_members_compatible-loop-name g l =
    let f = g.T.Node.means in
    let changes = members_by f l.changes.entries in
    let others = members_by f l.others.entries in
    ChangesLeftBy f l.name-iterator (λ left. SameClashes changes others left others × (members_depth left ≤ members_depth changes))
