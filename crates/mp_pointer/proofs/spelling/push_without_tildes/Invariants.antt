use Rattle.std.proofs.Common.{◌≡◌, ◌++◌, length, IsUtf8, string_bytes}
use Rattle.mp_pointer.specs.Bytes.{tilde}
use Rattle.mp_pointer.specs.Spelling.{escape}
use Rattle.mp_pointer.proofs.Spellings.ReadBack.{Lacks}
use Rattle.mp_pointer.proofs.spelling.push_without_tildes.Given as goal

abbrev pub invariant-slashes : goal.invariant-slashes
invariant-slashes l = (string_bytes l.text ++ escape l.rest ≡ string_bytes l.fn.text ++ escape l.fn.token) × Lacks tilde l.rest × IsUtf8 l.rest

abbrev pub decreases-slashes : goal.decreases-slashes
decreases-slashes l = length l.rest
