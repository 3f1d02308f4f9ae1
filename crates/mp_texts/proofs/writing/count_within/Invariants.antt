use Rattle.std.proofs.Common.{◌≡◌, ◌+◌, take}
use Rattle.mp_texts.proofs.Listed.{spelled}
use Rattle.mp_texts.proofs.writing.count_within.Given as goal

-- what is left of the limit after the places so far, and the bracket before or after them
abbrev pub invariant-loop-count : goal.invariant-loop-count
invariant-loop-count l = l.left + (1 + spelled (take l.count l.fn.places)) ≡ l.fn.limit
