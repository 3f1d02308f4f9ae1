use Rattle.std.proofs.Common.{map}
use Rattle.mp_merge.specs.Lists.{CompatibleBelow}
use Rattle.mp_merge.proofs.lists.clash_before.Given as goal

abbrev pub invariant-loop-first : goal.invariant-loop-first
invariant-loop-first g l = let f = g.T.Node.means in CompatibleBelow (map f l.patches) l.first (f l.patch)
