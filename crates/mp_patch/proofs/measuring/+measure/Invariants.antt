use Rattle.std.proofs.Common.{◌≡◌, ◌≤◌, ◌*◌, suc, max, drop}
use Rattle.std.specs.BTreeMap.{values}
use Rattle.mp_tree.specs.Document.{depth, items_depth, members_depth}
use Rattle.mp_tree.specs.View.{items_by, members_by}
use Rattle.mp_patch.proofs.measuring.+measure.Given as goal

abbrev pub decreases-depth_within : goal.decreases-depth_within
decreases-depth_within g l = 2 * depth (g.T.Node.means l.node.now)

abbrev pub decreases-depth_of_items : goal.decreases-depth_of_items
decreases-depth_of_items g l = suc (2 * items_depth (items_by g.T.Node.means l.elements.now.items))

abbrev pub decreases-depth_of_members : goal.decreases-depth_of_members
decreases-depth_of_members g l = suc (2 * members_depth (members_by g.T.Node.means l.entries.now.entries))

-- the depth is that of what was passed or of what is left
abbrev pub invariant-depth_of_items-loop-element : goal.invariant-depth_of_items-loop-element
invariant-depth_of_items-loop-element g l = record {
  whole : items_depth (items_by g.T.Node.means l.element-items) ≡ max l.deepest (items_depth (items_by g.T.Node.means (drop l.element-index l.element-items)));
  within : l.deepest ≤ l.limit;
}

abbrev pub invariant-depth_of_members-loop-value : goal.invariant-depth_of_members-loop-value
invariant-depth_of_members-loop-value g l = record {
  whole : items_depth (items_by g.T.Node.means (values l.entries)) ≡ max l.deepest (items_depth (items_by g.T.Node.means l.value-iterator));
  within : l.deepest ≤ l.limit;
}
