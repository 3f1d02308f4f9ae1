use Rattle.std.proofs.Common.{map, take}
use Rattle.mp_merge.specs.Join.{IsJoin}
use Rattle.mp_merge.proofs.lists.join_all_within.Given as goal

-- the patches so far are joined
abbrev pub invariant-loop-second : goal.invariant-loop-second
invariant-loop-second g l = let f = g.T.Node.means in IsJoin (take l.second (map f l.patches)) (f l.joined)
