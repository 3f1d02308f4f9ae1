use Rattle.std.proofs.Common.{ℕ, ◌<◌}
use Rattle.mp_pointer.specs.Spelling.{IsBadTilde}
use Rattle.mp_pointer.proofs.spelling.bad_tilde.Given as goal

abbrev pub invariant-loop-offset : goal.invariant-loop-offset
invariant-loop-offset l = (k : ℕ) → k < l.offset → ¬ IsBadTilde l.text k
