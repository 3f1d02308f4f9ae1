use Rattle.std.proofs.Common.{◌≡◌, map}
use Rattle.std.specs.Vec.Iter.{into_iter_items}
use Rattle.std.specs.Map.{values_of}
use Rattle.mp_tree.specs.Document.{items_depth}
use Rattle.mp_tree.specs.View.{items}
use Rattle.mp_tree.specs.Private.Readings.{StaysShallow}
use Rattle.mp_tree.proofs.Texts.FromData.{from_value, read_as, ReadMembers}
use Rattle.mp_tree.proofs.Passed.{Passed}
use Rattle.mp_tree.proofs.converting.+doc_of.Given as goal

abbrev pub invariant-docs_of-loop-value : goal.invariant-docs_of-loop-value
invariant-docs_of-loop-value l = record {
  elements : Passed l.fn.values.items (into_iter_items l.value-iterator) (λ passed. map read_as l.docs.items ≡ map from_value passed);
  shallow : StaysShallow l.fn.is_deep l.is_deep (items_depth (items l.docs.items)) l.levels;
  can_next : (goal.iterator-docs_of-loop-value).can_next l.value-iterator;
  is_finite : (goal.iterator-docs_of-loop-value).is_finite l.value-iterator;
}

abbrev pub invariant-many_members_of-loop-name : goal.invariant-many_members_of-loop-name
invariant-many_members_of-loop-name l = record {
  entries : ReadMembers l.fn.values.entries l.name-iterator l.pairs.items;
  shallow : StaysShallow l.fn.is_deep l.is_deep (items_depth (items (values_of l.pairs.items))) l.levels;
  can_next : (goal.iterator-many_members_of-loop-name).can_next l.name-iterator;
  is_finite : (goal.iterator-many_members_of-loop-name).is_finite l.name-iterator;
}

abbrev pub invariant-few_members_of-loop-name : goal.invariant-few_members_of-loop-name
invariant-few_members_of-loop-name l = record {
  entries : ReadMembers l.fn.values.entries l.name-iterator l.docs.entries;
  shallow : StaysShallow l.fn.is_deep l.is_deep (items_depth (items (values_of l.docs.entries))) l.levels;
  can_next : (goal.iterator-few_members_of-loop-name).can_next l.name-iterator;
  is_finite : (goal.iterator-few_members_of-loop-name).is_finite l.name-iterator;
}
