use Rattle.std.proofs.Common.{◌≡◌, ◌≤◌, take, length}
use Rattle.std.specs.List.{slice_range}
use Rattle.mp_pointer.specs.Part.{part}
use Rattle.mp_pointer.proofs.evaluating.part_in.Given as goal

abbrev pub invariant-loop-number : goal.invariant-loop-number
invariant-loop-number g l = part (g.T.Node.means l.fn.node) (take l.fn.count l.fn.pointer) ≡ part (g.T.Node.means l.target) (slice_range l.fn.pointer l.number l.fn.count)
