-- How a pointer is spelled, and why a text spells none (RFC 6901 section 3).
use Rattle.std.specs.Prelude.{◌≡◌, ◌≢◌, ◌+◌, ◌<◌, ◌==◌, ℕ, codes, List, [], ◌∷◌, ◌++◌, slice_index}
use Rattle.std.specs.Prelude.{Bool, if◌then◌else◌, ⊤}
use Rattle.std.specs.Cmp.Lexicographic.{pointwise}
use Rattle.std.specs.List.{flat_map}
use Rattle.mp_pointer.specs.Bytes.{slash, tilde, digit_zero, digit_one}
use Rattle.mp_pointer.specs.declared.fault.PointerFault.{PointerFault}
use Rattle.mp_pointer.specs.declared.fault.PointerFault.TheVariants.{NoSlash, BadTilde, OutOfMemory}

-- a pointer is its list of tokens, each the UTF-8 bytes of a name or an index with nothing escaped
abbrev pub Tokens : Type 0
Tokens = List (List ℕ)

-- as many tokens, and each equal byte by byte
abbrev pub are_same_tokens : Tokens → Tokens → Bool
are_same_tokens = pointwise (pointwise ◌==◌)

-- u is t with further tokens, or t itself
abbrev pub BeginsWith : Tokens → Tokens → Type 0
BeginsWith u t = (rest : Tokens) × (u ≡ t ++ rest)

-- u is t with at least one further token
abbrev pub IsProperPrefix : Tokens → Tokens → Type 0
IsProperPrefix t u = (next : List ℕ) × (rest : Tokens) × (u ≡ t ++ next ∷ rest)

-- `~` is written `~0` and `/` is written `~1`
abbrev pub escaped_byte : ℕ → List ℕ
escaped_byte c = if c == tilde then codes "~0" else (if c == slash then codes "~1" else c ∷ [])

abbrev pub escape : List ℕ → List ℕ
escape token = flat_map escaped_byte token

-- section 3: each token after a `/`
abbrev pub spell : Tokens → List ℕ
spell tokens = flat_map (λ token. slash ∷ escape token) tokens

-- ---- texts that are no spelling (past the end of a text `slice_index` gives 0)

-- a text that is not empty and does not begin with `/`
abbrev pub LacksSlash : List ℕ → Type 0
LacksSlash text = (text ≢ []) × (slice_index text 0 ≢ slash)

-- a `~` that no `0` and no `1` follows
abbrev pub IsBadTilde : List ℕ → ℕ → Type 0
IsBadTilde text offset =
    (slice_index text offset ≡ tilde)
    × (slice_index text (offset + 1) ≢ digit_zero) × (slice_index text (offset + 1) ≢ digit_one)

pub record IsFirstBadTilde (text : List ℕ) (offset : ℕ) : Type 0 where
  pub here : IsBadTilde text offset
  pub before : (k : ℕ) → k < offset → ¬ IsBadTilde text k

-- why the text is not a pointer; out of memory says nothing of it
abbrev pub IsPointerFault : PointerFault → List ℕ → Type 0
IsPointerFault NoSlash text = LacksSlash text
IsPointerFault (BadTilde offset) text = (slice_index text 0 ≡ slash) × IsFirstBadTilde text offset
IsPointerFault OutOfMemory text = ⊤
