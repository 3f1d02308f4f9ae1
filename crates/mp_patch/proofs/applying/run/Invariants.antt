use Rattle.std.proofs.Common.{◌≡◌, ◌≤◌, ◌<◌, ◌+◌, ◌^◌, List, IfSome}
use Rattle.std.specs.Iterator.{AlwaysYields}
use Rattle.mp_tree.specs.Document.{depth, depth_limit}
use Rattle.mp_tree.specs.Weight.{weight}
use Rattle.mp_patch.specs.Operation.{Operation}
use Rattle.mp_patch.specs.Private.Bounds.{Bounds}
use Rattle.mp_patch.proofs.Runs.Growth.{HasRunTo}
use Rattle.mp_patch.proofs.Runs.Within.{RunsUnder}
use Rattle.mp_patch.proofs.applying.run.Given as goal

abbrev pub invariant-loop-op : goal.invariant-loop-op
invariant-loop-op g l = record {
  ran : (operations : List Operation) → AlwaysYields g.I.Iterator.next_gives g.O.StepOwned.means l.fn.ops operations
      → HasRunTo g.I.Iterator.next_gives g.O.StepOwned.means (λ os e. RunsUnder l.fn.limit l.scale (g.T.Node.means l.fn.doc) os e) operations l.op-iterator l.done (g.T.Node.means l.result);
  weighs : IfSome l.scale (λ s. s.weight ≡ weight (g.T.Node.means l.result));
  bounds : Bounds l.bound.most 0 (g.T.Node.means l.result);
  shallow : depth (g.T.Node.means l.fn.doc) ≤ depth_limit → depth (g.T.Node.means l.result) ≤ depth_limit;
  few : l.done + (goal.iterator-loop-op g).remaining l.op-iterator < 2 ^ 64;
  can_next : (goal.iterator-loop-op g).can_next l.op-iterator;
  is_finite : (goal.iterator-loop-op g).is_finite l.op-iterator;
}
