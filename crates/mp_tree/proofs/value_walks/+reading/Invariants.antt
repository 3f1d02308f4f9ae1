use Rattle.std.proofs.Common.{◌≤◌, ◌<◌, ℕ, get_or}
use Rattle.std.specs.BTreeMap.{values}
use Rattle.mp_tree.specs.Document.{items_depth, members_depth}
use Rattle.mp_tree.specs.Private.Entries.{value_members}
use Rattle.mp_tree.specs.Values.{value_items}
use Rattle.serde_json.specs.declared.value.Value.{Value}
use Rattle.mp_tree.proofs.Passed.{Passed}
use Rattle.mp_tree.proofs.Valued.Wholes.{IsRead, AreRead, AreShallow, IsSoFar}
use Rattle.mp_tree.proofs.value_walks.+reading.Given as goal

-- one that is too deep is among the whole list, wherever the loop is
abbrev pub invariant-items_reading-loop-value : goal.invariant-items_reading-loop-value
invariant-items_reading-loop-value l = record {
  are_read : (k : ℕ) (d : Value) → k < l.value-index → IsRead (get_or l.value-items k d);
  so_far : IsSoFar l.reading (AreShallow l.value-index l.value-items l.limit) (l.limit < items_depth (value_items l.value-items));
}

abbrev pub invariant-members_reading-loop-value : goal.invariant-members_reading-loop-value
invariant-members_reading-loop-value l = record {
  are_read : Passed (values l.values) l.value-iterator AreRead;
  so_far : IsSoFar l.reading (Passed (values l.values) l.value-iterator (λ passed. items_depth (value_items passed) ≤ l.limit)) (l.limit < members_depth (value_members l.values.entries));
}
