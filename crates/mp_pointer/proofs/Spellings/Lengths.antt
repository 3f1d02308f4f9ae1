-- How many bytes a JSON string has of a spelling.
use Rattle.std.proofs.Common.{◌≡◌, ◌+◌, ◌∷◌, ◌++◌, [], ℕ, List, length, ap, ◌∙◌, arith, length-append}
use Rattle.std.proofs.lemmas.Grind.{flat_map-append}
use Rattle.json.specs.Print.{escape as in_string, escape_byte, quoted}
use Rattle.mp_pointer.specs.Spelling.{Tokens, escape, spell}

-- the parts of a text are escaped one by one
pub in_string-append : (xs ys : List ℕ) → length (in_string (xs ++ ys)) ≡ length (in_string xs) + length (in_string ys)
in_string-append xs ys = ap length (flat_map-append escape_byte xs ys) ∙ length-append (in_string xs) (in_string ys)

-- a token with the slash before it, and those after it
pub in_string-spell : (token : List ℕ) (ts : Tokens) → length (in_string (spell (token ∷ ts))) ≡ 1 + (length (in_string (escape token)) + length (in_string (spell ts)))
unfolding escape_byte
in_string-spell token ts = omega (arith, in_string-append (escape token) (spell ts))

-- with the quotes
pub quoted-length : (s : List ℕ) → length (quoted s) ≡ 2 + length (in_string s)
quoted-length s = omega (arith, length-append (in_string s) (34 ∷ []))
