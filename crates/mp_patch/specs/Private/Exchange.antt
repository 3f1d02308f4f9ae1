-- What an addition takes of a budget besides the value, and what it gives back. Only private clauses cite it.
use Rattle.std.specs.Prelude.{◌≡◌, ◌≤◌, ◌+◌, ◌∷◌, ◌++◌, [], ℕ, List, length, Option, None, Some}
use Rattle.mp_tree.specs.Document.{Document, object, find, IsDocument}
use Rattle.mp_tree.specs.Weight.{name_weight, weight}
use Rattle.mp_pointer.specs.Part.{part}
use Rattle.mp_pointer.specs.Spelling.{Tokens}
use Rattle.mp_patch.specs.Operation.{Adds}
use Rattle.mp_patch.specs.Refusal.{HasNoPlace}

-- the weight of what is at a name of an object, with the name
abbrev pub named_weight : List ℕ → Option Document → ℕ
named_weight n None = 0
named_weight n (Some d) = name_weight + length n + weight d

-- what an addition in a container gives back, and what it takes besides the value
abbrev pub gives_at : List ℕ → Document → ℕ
gives_at n (object ms) = named_weight n (find n ms)
gives_at n other = 0

abbrev pub takes_at : List ℕ → Document → ℕ
takes_at n (object ms) = name_weight + length n
takes_at n other = 0

-- if a container is at all tokens but the last, n is what the place takes besides the value
abbrev pub TakesAt : Document → Tokens → ℕ → Type 0
TakesAt d t n = (s : Tokens) (last : List ℕ) (x : Document)
    → t ≡ s ++ last ∷ [] → part d s ≡ Some x → n ≡ takes_at last x

-- there is a place at t; to add a value there gives back so much, and takes so much besides the value
pub record IsExchange (d : Document) (t : Tokens) (gives takes : ℕ) : Type 0 where
  pub place : ¬ HasNoPlace d t
  pub within : gives ≤ weight d
  pub is : (v e : Document) → IsDocument v → Adds t v d e → weight e + gives ≡ weight d + takes + weight v
