-- The first bad tilde of a text, computed from its bytes. Only private clauses cite it.
use Rattle.std.specs.Prelude.{◌==◌, ◌&&◌, ◌||◌, ℕ, suc, List, [], ◌∷◌, Bool, false, not, if◌then◌else◌}
use Rattle.std.specs.Prelude.{Option, None, Some, option_map}
use Rattle.mp_pointer.specs.Bytes.{tilde, digit_zero, digit_one}

-- a text that begins with `0` or `1`
abbrev pub is_escape : List ℕ → Bool
is_escape [] = false
is_escape (c ∷ rest) = (c == digit_zero) || (c == digit_one)

-- c is a `~` that no `0` and no `1` follows
abbrev pub starts_badly : ℕ → List ℕ → Bool
starts_badly c rest = (c == tilde) && not (is_escape rest)

abbrev pub first_bad_tilde : List ℕ → Option ℕ
first_bad_tilde [] = None
first_bad_tilde (c ∷ rest) = if starts_badly c rest then Some 0 else option_map suc (first_bad_tilde rest)
