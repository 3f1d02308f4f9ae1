use Rattle.std.proofs.Common.{◌*◌, suc, drop}
use Rattle.serde.specs.Event.{Log}
use Rattle.serde_json.specs.Events.{SendsItems, SendsMembers}
use Rattle.mp_tree.specs.Document.{depth, items_depth, members_depth}
use Rattle.mp_tree.specs.Text.{items_data}
use Rattle.mp_tree.specs.View.{items_by, members_by}
use Rattle.mp_tree.proofs.Texts.IntoData.{entries_data_by}
use Rattle.mp_tree.proofs.Passed.{Passed}
use Rattle.mp_tree.proofs.serializing.+send.Given as goal

-- no value of a type parameter has a depth of its own: the document that it means has one
abbrev pub decreases-send : goal.decreases-send
decreases-send g l = 2 * depth (g.T.Node.means l.node.now)

abbrev pub decreases-send_items : goal.decreases-send_items
decreases-send_items g l = suc (2 * items_depth (items_by g.T.Node.means l.elements.now.items))

abbrev pub decreases-send_members : goal.decreases-send_members
decreases-send_members g l = suc (2 * members_depth (members_by g.T.Node.means l.entries.now.entries))

-- whatever sends the elements that are left, and the end, from here, sends all of them from the start
abbrev pub invariant-send_items-loop-element : goal.invariant-send_items-loop-element
invariant-send_items-loop-element g l =
    let f = g.T.Node.means in
    (end : Log) → SendsItems (items_data (items_by f (drop l.element-index l.element-items))) (g.S.Serializer.written l.out) end → SendsItems (items_data (items_by f l.element-items)) (g.S.Serializer.written l.initial.out) end

abbrev pub invariant-send_members-loop-name : goal.invariant-send_members-loop-name
invariant-send_members-loop-name g l =
    let f = g.T.Node.means in Passed l.entries.entries l.name-iterator (λ passed.
    (end : Log) → SendsMembers (entries_data_by f l.name-iterator) (g.S.Serializer.written l.out) end → SendsMembers (entries_data_by f l.initial.name-iterator) (g.S.Serializer.written l.initial.out) end)
