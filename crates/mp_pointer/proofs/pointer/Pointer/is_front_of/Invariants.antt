use Rattle.std.proofs.Common.{◌≡◌, take}
use Rattle.mp_pointer.proofs.pointer.Pointer.is_front_of.Given as goal

abbrev pub invariant-loop-number : goal.invariant-loop-number
invariant-loop-number l = take l.number l.fn.self ≡ take l.number l.fn.other
