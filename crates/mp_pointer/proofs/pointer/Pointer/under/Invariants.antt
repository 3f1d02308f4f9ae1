use Rattle.std.proofs.Common.{◌≡◌, ◌∷◌, take}
use Rattle.mp_pointer.proofs.pointer.Pointer.under.Given as goal

abbrev pub invariant-loop-number : goal.invariant-loop-number
invariant-loop-number l = l.pointer ≡ l.fn.token ∷ take l.number l.fn.self
