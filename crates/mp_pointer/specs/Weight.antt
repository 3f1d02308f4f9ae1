-- The weight of a place in bytes: about what its pointer takes in memory, and never less than it takes once it is made.
use Rattle.std.specs.Prelude.{◌+◌, ◌*◌, ℕ, length}
use Rattle.mp_pointer.specs.Spelling.{Tokens, spell}

-- beside its tokens and its spelling
abbrev pub pointer_weight : ℕ
pointer_weight = 128

-- of each token, beside its spelling
abbrev pub token_weight : ℕ
token_weight = 8

-- with the bytes of its spelling (RFC 6901 section 3)
abbrev pub place_weight : Tokens → ℕ
place_weight t = pointer_weight + token_weight * length t + length (spell t)
