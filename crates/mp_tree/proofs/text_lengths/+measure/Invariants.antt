use Rattle.std.proofs.Common.{◌≡◌, ◌≤◌, ◌*◌, ◌+◌, suc, drop, string_cmp}
use Rattle.std.specs.List.Sorted.{IsStrictlySortedBy}
use Rattle.std.specs.Map.{keys_of}
use Rattle.mp_tree.specs.Document.{depth, items_depth, members_depth}
use Rattle.mp_tree.specs.View.{items_by, members_by}
use Rattle.mp_tree.specs.Private.Lengths.{items_length, members_length}
use Rattle.mp_tree.proofs.text_lengths.+measure.Given as goal

-- no value of a type parameter has a depth of its own: the document that it means has one
abbrev pub decreases-left_of_text : goal.decreases-left_of_text
decreases-left_of_text g l = 2 * depth (g.T.Node.means l.node.now)

abbrev pub decreases-left_of_elements : goal.decreases-left_of_elements
decreases-left_of_elements g l = suc (2 * items_depth (items_by g.T.Node.means l.elements.now.items))

abbrev pub decreases-left_of_entries : goal.decreases-left_of_entries
decreases-left_of_entries g l = suc (2 * members_depth (members_by g.T.Node.means l.entries.now.entries))

-- what is left of the budget and of the list are together what all of both are, but for the opening bracket
abbrev pub invariant-left_of_elements-loop-element : goal.invariant-left_of_elements-loop-element
invariant-left_of_elements-loop-element g l =
    let f = g.T.Node.means in
    let rest = items_by f (drop l.element-index l.element-items) in
    let all = items_by f l.element-items in record {
      budget : l.budget + items_length rest ≡ l.left + 1 + items_length all;
      deep : items_depth rest ≤ items_depth all;
    }

abbrev pub invariant-left_of_entries-loop-name : goal.invariant-left_of_entries-loop-name
invariant-left_of_entries-loop-name g l =
    let f = g.T.Node.means in
    let rest = members_by f l.name-iterator in
    let all = members_by f l.entries.entries in record {
      ascends : IsStrictlySortedBy string_cmp (keys_of l.name-iterator);
      budget : l.budget + members_length rest ≡ l.left + 1 + members_length all;
      deep : members_depth rest ≤ members_depth all;
    }
