-- What is asked where one child is borrowed. Only private clauses cite it.
use Rattle.std.specs.Prelude.{◌+◌, ℕ, ⊤}
use Rattle.std.specs.List.{slice_range}
use Rattle.mp_tree.specs.Document.{Document, null, flag, whole, string, list, object}
use Rattle.mp_pointer.specs.Spelling.{Tokens}

-- the token at a place, as a list of tokens
abbrev pub one_token : Tokens → ℕ → Tokens
one_token t number = slice_range t number (number + 1)

abbrev pub IsList : Document → Type 0
IsList null = ⊥
IsList (flag b) = ⊥
IsList (whole z) = ⊥
IsList (string s) = ⊥
IsList (list ds) = ⊤
IsList (object ms) = ⊥
