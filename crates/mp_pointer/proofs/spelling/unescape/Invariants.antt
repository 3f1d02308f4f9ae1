use Rattle.std.proofs.Common.{◌≡◌, ◌++◌, length, None, IsUtf8, string_bytes}
use Rattle.mp_pointer.specs.Bytes.{slash}
use Rattle.mp_pointer.specs.Spelling.{escape}
use Rattle.mp_pointer.specs.Private.BadTilde.{first_bad_tilde}
use Rattle.mp_pointer.proofs.Spellings.ReadBack.{Lacks}
use Rattle.mp_pointer.proofs.spelling.unescape.Given as goal

abbrev pub invariant-escapes : goal.invariant-escapes
invariant-escapes l = (escape (string_bytes l.token) ++ l.rest ≡ l.fn.spelled) × Lacks slash l.rest × (first_bad_tilde l.rest ≡ None) × IsUtf8 l.rest

abbrev pub decreases-escapes : goal.decreases-escapes
decreases-escapes l = length l.rest
