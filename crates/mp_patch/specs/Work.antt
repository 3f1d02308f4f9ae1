-- The work of the operations of a JSON Patch: the weight of what they copy, and the elements of arrays that they shift.
use Rattle.std.specs.Prelude.{◌≡◌, ◌≢◌, ◌≤◌, ◌<◌, ◌⊎◌, ◌+◌, ◌-◌, ◌*◌, ◌^◌, ℕ, suc, List, [], ◌∷◌, if◌then◌else◌, Some}
use Rattle.std.specs.Option.{option_map_or}
use Rattle.std.specs.Str.{bytes_eq}
use Rattle.mp_tree.specs.Document.{Document, list, Items, no_items, item}
use Rattle.mp_tree.specs.Elements.{count_of}
use Rattle.mp_tree.specs.Weight.{weight}
use Rattle.mp_pointer.specs.Part.{part, child, numeral}
use Rattle.mp_pointer.specs.Spelling.{Tokens}
use Rattle.mp_patch.specs.Operation.{Operation, add, remove, replace, move, copy, test, Removes}

-- how many elements there are from the one whose index the token spells to the last, if the first is counted as i; none
-- if the token spells the index of none
abbrev pub count_from : ℕ → List ℕ → Items → ℕ
count_from i token no_items = 0
count_from i token (item d ds) = if bytes_eq token (numeral i) then suc (count_of ds) else count_from (suc i) token ds

-- the same in a document, which has none if it is no array
abbrev pub shifted_in : List ℕ → Document → ℕ
shifted_in token (list ds) = count_from 0 token ds
shifted_in token other = 0

-- the same at the place t of a document: how many elements are from there on in the array that has t
abbrev pub shifted_at : Tokens → Document → ℕ
shifted_at [] d = 0
shifted_at (token ∷ []) d = shifted_in token d
shifted_at (token ∷ rest) d = option_map_or (λ e. shifted_at rest e) (child token d) 0

-- an addition at t shifts the elements from t on, and a removal those after t
abbrev pub IsWork : Document → Operation → ℕ → Type 0
IsWork d (add t v) w = w ≡ shifted_at t d
IsWork d (remove t) w = w ≡ shifted_at t d - 1
IsWork d (replace t v) w = w ≡ 0
-- a move is a removal and then an addition, if it is not to where the part is
IsWork d (move f t) w =
    ((f ≡ t) × (w ≡ 0))
    ⊎ ((f ≢ t) × (left : Document) × Removes f d left × (w ≡ (shifted_at f d - 1) + shifted_at t left))
-- a copy weighs what it copies, and then adds it
IsWork d (copy f t) w = (x : Document) × (part d f ≡ Some x) × (w ≡ weight x + shifted_at t d)
IsWork d (test t v) w = w ≡ 0

-- ---- what a limit allows

-- so much work is allowed for each byte of a limit
abbrev pub work_factor : ℕ
work_factor = 16

-- the limit that bounds nothing
abbrev pub no_limit : ℕ
no_limit = 2 ^ 64 - 1

abbrev pub AllowsWork : ℕ → ℕ → Type 0
AllowsWork limit w = limit ≢ no_limit → w ≤ work_factor * limit

abbrev pub ExceedsWork : ℕ → ℕ → Type 0
ExceedsWork limit w = (limit ≢ no_limit) × (work_factor * limit < w)
