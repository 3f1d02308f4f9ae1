-- The tokens that a text spells, computed from its bytes: what the laws of spellings are proved by.
use Rattle.std.proofs.Common.{ℕ, List, [], ◌∷◌, map, if◌then◌else◌, Option, None, Some, Result, Ok, Err, ◌==◌}
use Rattle.mp_pointer.specs.Bytes.{slash, tilde, digit_one}
use Rattle.mp_pointer.specs.Private.BadTilde.{first_bad_tilde}
use Rattle.mp_pointer.specs.Spelling.{Tokens}
use Rattle.mp_pointer.specs.declared.fault.PointerFault.{PointerFault}
use Rattle.mp_pointer.specs.declared.fault.PointerFault.TheVariants.{NoSlash, BadTilde}

-- RFC 6901 section 4: `~1` is read as `/` and `~0` as `~`, and what that gives is not read again, so `~01` is `~1`
abbrev pub unescape : List ℕ → List ℕ
unescape [] = []
unescape (c ∷ []) = c ∷ []
unescape (c ∷ d ∷ rest) = if c == tilde then (if d == digit_one then slash else tilde) ∷ unescape rest else c ∷ unescape (d ∷ rest)

-- the parts of a text between its slashes
abbrev pub on_first : ℕ → Tokens → Tokens
on_first c [] = []
on_first c (part ∷ parts) = (c ∷ part) ∷ parts

abbrev pub parts_of : List ℕ → Tokens
parts_of [] = [] ∷ []
parts_of (c ∷ rest) = if c == slash then [] ∷ parts_of rest else on_first c (parts_of rest)

abbrev pub unless_bad : Option ℕ → Tokens → Result Tokens PointerFault
unless_bad None tokens = Ok tokens
unless_bad (Some offset) tokens = Err (BadTilde offset)

-- the tokens that the text spells, or the first error: no slash, or a bad tilde at its offset
unfoldable pub tokens_in : List ℕ → Result Tokens PointerFault
tokens_in [] = Ok []
tokens_in (c ∷ rest) = if c == slash then unless_bad (first_bad_tilde (c ∷ rest)) (map unescape (parts_of rest)) else Err NoSlash
