use Rattle.std.proofs.Common.{◌≡◌, map}
use Rattle.std.specs.Vec.Iter.{into_iter_items}
use Rattle.mp_tree.specs.Values.{value_document}
use Rattle.mp_merge.specs.Application.{in_turn}
use Rattle.mp_texts.proofs.lists.merge_each.Given as goal

-- the patches that are left, applied to the value as it is, give the result
abbrev pub invariant-loop-patch : goal.invariant-loop-patch
invariant-loop-patch l =
    (in_turn (value_document l.initial.value) (map value_document (into_iter_items l.initial.patch-iterator)) ≡ in_turn (value_document l.value) (map value_document (into_iter_items l.patch-iterator)))
    × (goal.iterator-loop-patch).can_next l.patch-iterator × (goal.iterator-loop-patch).is_finite l.patch-iterator
