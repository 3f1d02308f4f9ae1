-- What is known of the depth of a document that operations change. Only private clauses cite it.
use Rattle.std.specs.Prelude.{◌+◌, ◌≤◌, ℕ, Option, None, Some, ⊤}
use Rattle.mp_tree.specs.Document.{Document, depth}

-- if there is a bound, so many tokens and the depth of what is below them are together within it
abbrev pub Bounds : Option ℕ → ℕ → Document → Type 0
Bounds None tokens d = ⊤
Bounds (Some most) tokens d = tokens + depth d ≤ most
