use Rattle.std.proofs.Common.{◌≡◌, take, string_bytes}
use Rattle.mp_pointer.specs.Spelling.{spell}
use Rattle.mp_pointer.proofs.pointer.Pointer.escape_tokens.Given as goal

abbrev pub invariant-loop-number : goal.invariant-loop-number
invariant-loop-number l = string_bytes l.text ≡ spell (take l.number l.self)
