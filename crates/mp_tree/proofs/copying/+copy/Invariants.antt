use Rattle.std.proofs.Common.{◌≡◌, ◌*◌, ◌+◌, suc, take, map}
use Rattle.mp_tree.specs.Document.{depth, items_depth, members_depth}
use Rattle.mp_tree.specs.View.{items_by, members_by}
use Rattle.mp_tree.proofs.Maps.Building.{seen}
use Rattle.mp_tree.proofs.Passed.{Passed}
use Rattle.mp_tree.proofs.copying.+copy.Given as goal

-- no value of a type parameter has a depth of its own: the document that it means has one
abbrev pub decreases-copy_of : goal.decreases-copy_of
decreases-copy_of g l = 3 * depth (g.T.Walked.means l.node.now)

abbrev pub decreases-copy_items : goal.decreases-copy_items
decreases-copy_items g l = suc (3 * items_depth (items_by g.T.Walked.means l.elements.now.items))

abbrev pub decreases-copy_few : goal.decreases-copy_few
decreases-copy_few g l = suc (3 * members_depth (members_by g.T.Walked.means l.entries.now.entries))

abbrev pub decreases-copy_members : goal.decreases-copy_members
decreases-copy_members g l = 2 + 3 * members_depth (members_by g.T.Walked.means l.entries.now.entries)

abbrev pub invariant-copy_items-loop-element : goal.invariant-copy_items-loop-element
invariant-copy_items-loop-element g l = map g.U.Walked.means l.copies.items ≡ map g.T.Walked.means (take l.element-index l.element-items)

abbrev pub invariant-copy_few-loop-name : goal.invariant-copy_few-loop-name
invariant-copy_few-loop-name g l =
    Passed l.entries.entries l.name-iterator (λ passed. map (seen g.U.Walked.means) l.copies.entries ≡ map (seen g.T.Walked.means) passed)

abbrev pub invariant-copy_members-loop-name : goal.invariant-copy_members-loop-name
invariant-copy_members-loop-name g l =
    Passed l.entries.entries l.name-iterator (λ passed. map (seen g.U.Walked.means) l.pairs.items ≡ map (seen g.T.Walked.means) passed)
