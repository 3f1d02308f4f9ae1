use Rattle.std.proofs.Common.{◌≡◌, ◌≤◌, ◌*◌, ◌+◌, suc, drop, string_cmp}
use Rattle.std.specs.List.Sorted.{IsStrictlySortedBy}
use Rattle.std.specs.Map.{keys_of}
use Rattle.mp_tree.specs.Document.{depth, items_depth, members_depth}
use Rattle.mp_tree.specs.Weight.{items_weight, members_weight}
use Rattle.mp_tree.specs.View.{items_by, members_by}
use Rattle.mp_tree.proofs.weighing.+weigh.Given as goal

-- no value of a type parameter has a depth of its own: the document that it means has one
abbrev pub decreases-left_of : goal.decreases-left_of
decreases-left_of g l = 2 * depth (g.T.Node.means l.node.now)

abbrev pub decreases-left_of_items : goal.decreases-left_of_items
decreases-left_of_items g l = suc (2 * items_depth (items_by g.T.Node.means l.elements.now.items))

abbrev pub decreases-left_of_members : goal.decreases-left_of_members
decreases-left_of_members g l = suc (2 * members_depth (members_by g.T.Node.means l.entries.now.entries))

-- what is left of the budget and of the list are together what all of both are
abbrev pub invariant-left_of_items-loop-element : goal.invariant-left_of_items-loop-element
invariant-left_of_items-loop-element g l =
    let f = g.T.Node.means in
    let rest = items_by f (drop l.element-index l.element-items) in
    let all = items_by f l.element-items in record {
      budget : l.budget + items_weight rest ≡ l.left + items_weight all;
      deep : items_depth rest ≤ items_depth all;
    }

abbrev pub invariant-left_of_members-loop-name : goal.invariant-left_of_members-loop-name
invariant-left_of_members-loop-name g l =
    let f = g.T.Node.means in
    let rest = members_by f l.name-iterator in
    let all = members_by f l.entries.entries in record {
      ascends : IsStrictlySortedBy string_cmp (keys_of l.name-iterator);
      budget : l.budget + members_weight rest ≡ l.left + members_weight all;
      deep : members_depth rest ≤ members_depth all;
    }
