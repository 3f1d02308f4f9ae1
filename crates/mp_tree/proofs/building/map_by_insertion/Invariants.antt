use Rattle.std.proofs.Common.{◌≡◌}
use Rattle.std.specs.Vec.Iter.{into_iter_items}
use Rattle.mp_tree.proofs.Passed.{Passed}
use Rattle.mp_tree.proofs.building.map_by_insertion.Given as goal

abbrev pub invariant-loop-name : goal.invariant-loop-name
invariant-loop-name g l = record {
  pairs : Passed l.fn.pairs.items (into_iter_items l.name-iterator) (λ passed. l.map.entries ≡ passed);
  can_next : (goal.iterator-loop-name g).can_next l.name-iterator;
  is_finite : (goal.iterator-loop-name g).is_finite l.name-iterator;
}
