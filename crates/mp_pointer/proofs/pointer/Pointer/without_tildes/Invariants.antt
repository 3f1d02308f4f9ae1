use Rattle.std.proofs.Common.{◌≡◌, ◌≢◌, ◌<◌, ◌++◌, ℕ, suc, drop, get_or}
use Rattle.mp_pointer.specs.Bytes.{tilde}
use Rattle.mp_pointer.proofs.Spellings.Plain.{ends_in}
use Rattle.mp_pointer.proofs.pointer.Pointer.without_tildes.Given as goal

abbrev pub invariant-loop-offset : goal.invariant-loop-offset
invariant-loop-offset l =
    (l.ends.items ++ ends_in (suc l.offset) (drop l.offset l.rest) ≡ ends_in 1 l.rest)
    × ((k : ℕ) → k < l.offset → get_or l.rest k 0 ≢ tilde)
