use Rattle.std.proofs.Common.{◌≡◌, ◌∷◌, ◌++◌, length, None, IsUtf8}
use Rattle.mp_pointer.specs.Bytes.{slash}
use Rattle.mp_pointer.specs.Spelling.{spell}
use Rattle.mp_pointer.specs.Private.BadTilde.{first_bad_tilde}
use Rattle.mp_pointer.proofs.spelling.pointer_after.Given as goal

abbrev pub invariant-parts : goal.invariant-parts
invariant-parts l = (spell l.pointer ++ slash ∷ l.rest ≡ slash ∷ l.fn.rest) × (first_bad_tilde l.rest ≡ None) × IsUtf8 l.rest

abbrev pub decreases-parts : goal.decreases-parts
decreases-parts l = length l.rest
