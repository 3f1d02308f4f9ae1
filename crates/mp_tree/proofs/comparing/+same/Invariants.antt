use Rattle.std.proofs.Common.{◌≡◌, ◌<◌, ◌*◌, ℕ, suc, length, get_or}
use Rattle.std.specs.Iterator.Adapters.{zip_first, zip_second}
use Rattle.mp_tree.specs.Document.{depth, items_depth, members_depth}
use Rattle.mp_tree.specs.View.{items_by, members_by}
use Rattle.mp_tree.proofs.Maps.Building.{seen}
use Rattle.mp_tree.proofs.Documents.SameParts.{PassedAlike}
use Rattle.mp_tree.proofs.comparing.+same.Given as goal

-- no value of a type parameter has a depth of its own: the document that it means has one
abbrev pub decreases-is_same : goal.decreases-is_same
decreases-is_same g l = 2 * depth (g.T.Walked.means l.node.now)

abbrev pub decreases-are_same_items : goal.decreases-are_same_items
decreases-are_same_items g l = suc (2 * items_depth (items_by g.T.Walked.means l.elements.now.items))

abbrev pub decreases-are_same_members : goal.decreases-are_same_members
decreases-are_same_members g l = suc (2 * members_depth (members_by g.T.Walked.means l.entries.now.entries))

abbrev pub invariant-are_same_items-loop-element : goal.invariant-are_same_items-loop-element
invariant-are_same_items-loop-element g l =
    let f = g.T.Walked.means in (k : ℕ) (d : _) → k < length l.yielded → f (get_or l.elements.items k d) ≡ f (get_or l.others.items k d)

abbrev pub invariant-are_same_members-loop-name : goal.invariant-are_same_members-loop-name
invariant-are_same_members-loop-name g l =
    PassedAlike (seen g.T.Walked.means) l.entries.entries (zip_first l.name-iterator) l.others.entries (zip_second l.name-iterator)
