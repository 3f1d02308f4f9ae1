-- Two documents that differ at one place of a pointer alone.
use Rattle.std.specs.Prelude.{◌≡◌, ℕ, List, [], ◌∷◌, Option, None, Some}
use Rattle.mp_tree.specs.Document.{Document, list, object, Members, no_members, member}
use Rattle.mp_tree.specs.Elements.{count_of}
use Rattle.mp_pointer.specs.Part.{part}
use Rattle.mp_pointer.specs.Spelling.{Tokens, BeginsWith}

-- what kind of part is there
pub data Kind : Type 0 where
  absent : Kind
  scalar : Document → Kind
  names : List (List ℕ) → Kind
  array_of : ℕ → Kind

abbrev pub names_of : Members → List (List ℕ)
names_of no_members = []
names_of (member n d ms) = n ∷ names_of ms

-- a scalar with its value, an object with its names, an array with its length
abbrev pub kind_of : Option Document → Kind
kind_of None = absent
kind_of (Some (list ds)) = array_of (count_of ds)
kind_of (Some (object ms)) = names (names_of ms)
kind_of (Some d) = scalar d

abbrev pub kind : Document → Tokens → Kind
kind d t = kind_of (part d t)

-- what is at every list of tokens that does not begin with t is of the same kind in both
abbrev pub DifferOnlyAt : Tokens → Document → Document → Type 0
DifferOnlyAt t d e = (u : Tokens) → ¬ BeginsWith u t → kind d u ≡ kind e u
