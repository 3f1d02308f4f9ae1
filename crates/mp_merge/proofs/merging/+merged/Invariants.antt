use Rattle.std.proofs.Common.{◌≡◌, ◌*◌, ◌+◌, ◌≤◌}
use Rattle.mp_tree.specs.Document.{depth, members_depth}
use Rattle.mp_tree.specs.View.{members_by}
use Rattle.mp_merge.specs.Application.{merge_patch_members}
use Rattle.mp_merge.proofs.Collections.Members.{ChangesLeftBy}
use Rattle.mp_merge.proofs.merging.+merged.Given as goal

abbrev pub decreases-merged : goal.decreases-merged
decreases-merged g l = 5 * depth (g.T.Node.means l.patch)

abbrev pub decreases-change_value : goal.decreases-change_value
decreases-change_value g l = 5 * depth (g.T.Node.means l.change) + 1

abbrev pub decreases-change_entry : goal.decreases-change_entry
decreases-change_entry g l = 5 * depth (g.T.Node.means l.change) + 2

abbrev pub decreases-merged_members : goal.decreases-merged_members
decreases-merged_members g l = 5 * members_depth (members_by g.T.Node.means l.changes.entries) + 4

abbrev pub decreases-merged_member : goal.decreases-merged_member
decreases-merged_member g l = 5 * members_depth (members_by g.T.Node.means l.changes.entries) + 3

-- the changes that are left, applied to the entries as they are, give the result
abbrev pub invariant-merged_members-loop-name : goal.invariant-merged_members-loop-name
invariant-merged_members-loop-name g l =
    let f = g.T.Node.means in
    let changes = members_by f l.fn.changes.entries in record {
      can_next : (goal.iterator-merged_members-loop-name g).can_next l.name-iterator;
      is_finite : (goal.iterator-merged_members-loop-name g).is_finite l.name-iterator;
      changes : ChangesLeftBy f l.name-iterator (λ left. (merge_patch_members (members_by f l.initial.entries.entries) changes ≡ merge_patch_members (members_by f l.entries.entries) left) × (members_depth left ≤ members_depth changes));
    }
