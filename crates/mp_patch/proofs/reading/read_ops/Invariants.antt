use Rattle.std.specs.Vec.Iter.{into_iter_items}
use Rattle.mp_patch.specs.View.{operation_by}
use Rattle.mp_patch.proofs.Forms.Reading.{AreReadTo}
use Rattle.mp_patch.proofs.reading.read_ops.Given as goal

abbrev pub invariant-loop-element : goal.invariant-loop-element
invariant-loop-element g l = record {
  read : AreReadTo g.T.Node.means (operation_by g.T.Node.means) l.fn.elements.items (into_iter_items l.element-iterator) l.ops.items;
  can_next : (goal.iterator-loop-element g).can_next l.element-iterator;
  is_finite : (goal.iterator-loop-element g).is_finite l.element-iterator;
}
