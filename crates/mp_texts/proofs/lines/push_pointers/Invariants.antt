use Rattle.std.proofs.Common.{◌≡◌, ◌++◌, take, string_bytes}
use Rattle.mp_texts.proofs.Named.{behind}
use Rattle.mp_texts.proofs.lines.push_pointers.Given as goal

-- the places so far
abbrev pub invariant-loop-place : goal.invariant-loop-place
invariant-loop-place l = string_bytes l.line ≡ string_bytes l.initial.line ++ behind (take l.place-index l.fn.others)
