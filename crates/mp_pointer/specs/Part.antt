-- What a list of tokens names in a document (RFC 6901 section 4).
use Rattle.std.specs.Prelude.{◌+◌, ℕ, zero, suc, List, [], ◌∷◌, map, if◌then◌else◌, Option, None, Some, option_and_then}
use Rattle.std.specs.Int.Digits.{digits_of}
use Rattle.std.specs.Str.{bytes_eq}
use Rattle.mp_tree.specs.Document.{Document, list, object, Items, no_items, item, find}
use Rattle.mp_pointer.specs.Bytes.{digit_zero}
use Rattle.mp_pointer.specs.Spelling.{Tokens}

-- the decimal spelling of an index, without leading zeros
unfoldable pub numeral : ℕ → List ℕ
numeral zero = digit_zero ∷ []
numeral (suc n) = map (λ digit. digit_zero + digit) (digits_of 10 (suc n))

-- the element whose index the token spells, if the first is counted as i
abbrev pub element_from : ℕ → List ℕ → Items → Option Document
element_from i token no_items = None
element_from i token (item d ds) = if bytes_eq token (numeral i) then Some d else element_from (suc i) token ds

-- what one token names: at an object the value of that name, at an array the element of that index, at a scalar nothing
unfoldable pub child : List ℕ → Document → Option Document
child token (list ds) = element_from 0 token ds
child token (object ms) = find token ms
child token scalar = None

abbrev pub part : Document → Tokens → Option Document
part d [] = Some d
part d (token ∷ rest) = option_and_then (λ e. part e rest) (child token d)
