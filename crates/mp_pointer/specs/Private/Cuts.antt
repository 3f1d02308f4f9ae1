-- How a `Pointer` keeps its tokens, each after a slash in one text, with the offset at which each ends. A pointer is
-- the list that `cut` gives of these two; `IsKept` is what is always so of them. Both are of private fields: only
-- private clauses cite this file, and the view of a `Pointer`.
use Rattle.std.specs.Prelude.{◌≡◌, ◌≢◌, ◌<◌, ◌∷◌, ℕ, suc, List, [], length, slice_range, slice_index, Bool, IsTrue, ⊤}
use Rattle.std.specs.Str.{IsUtf8}
use Rattle.mp_pointer.specs.Bytes.{slash, tilde}

-- what follows the slash at `start` up to the first end, what follows the slash there up to the next, and so on
abbrev pub cut : ℕ → List ℕ → List ℕ → List (List ℕ)
cut start [] bytes = []
cut start (end ∷ ends) bytes = slice_range bytes (suc start) end ∷ cut end ends bytes

-- a slash stands at `start` and at each end but the last, which is that of the bytes, and between two is a text
abbrev pub AreCuts : ℕ → List ℕ → List ℕ → Type 0
AreCuts start [] bytes = start ≡ length bytes
AreCuts start (end ∷ ends) bytes =
    (start < end)
    × (slice_range bytes start end ≡ slash ∷ slice_range bytes (suc start) end)
    × IsUtf8 (slice_range bytes (suc start) end)
    × AreCuts end ends bytes

-- neither `~` nor `/` is in it
abbrev pub IsPlain : List ℕ → Type 0
IsPlain text = (k : ℕ) → k < length text → (slice_index text k ≢ tilde) × (slice_index text k ≢ slash)

abbrev pub EachPlain : List (List ℕ) → Type 0
EachPlain [] = ⊤
EachPlain (text ∷ texts) = IsPlain text × EachPlain texts

-- the fields of a pointer: if its flag is set, each token is spelled as it is
pub record IsKept (is_plain : Bool) (ends bytes : List ℕ) : Type 0 where
  pub cuts : AreCuts 0 ends bytes
  pub plain : IsTrue is_plain → EachPlain (cut 0 ends bytes)
