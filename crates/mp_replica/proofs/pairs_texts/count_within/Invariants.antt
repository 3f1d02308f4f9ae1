use Rattle.std.proofs.Common.{◌≡◌, ◌+◌, ◌-◌, map, take}
use Rattle.mp_replica.specs.PatchLog.{seen}
use Rattle.mp_replica.proofs.PairTexts.{spelled}
use Rattle.mp_replica.proofs.pairs_texts.count_within.Given as goal

-- what is left of the limit after the pairs so far, without the last bracket
abbrev pub invariant-loop-count : goal.invariant-loop-count
invariant-loop-count l = l.left + spelled (map seen (take l.count l.fn.pairs)) ≡ l.fn.limit - 1
