use Rattle.std.proofs.Common.{◌≡◌, ◌++◌, length, IsUtf8, string_bytes}
use Rattle.mp_pointer.specs.Spelling.{escape}
use Rattle.mp_pointer.proofs.spelling.push_escaped.Given as goal

abbrev pub invariant-tildes : goal.invariant-tildes
invariant-tildes l = (string_bytes l.text ++ escape l.rest ≡ string_bytes l.fn.text ++ escape l.fn.token) × IsUtf8 l.rest

abbrev pub decreases-tildes : goal.decreases-tildes
decreases-tildes l = length l.rest
