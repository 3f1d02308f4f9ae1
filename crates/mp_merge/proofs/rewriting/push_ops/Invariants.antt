use Rattle.std.proofs.Common.{◌≡◌, ◌++◌}
use Rattle.mp_merge.proofs.rewriting.push_ops.Given as goal

-- the operations so far stand at the end
abbrev pub invariant-loop-op : goal.invariant-loop-op
invariant-loop-op l = l.patch ≡ l.initial.patch ++ l.yielded
