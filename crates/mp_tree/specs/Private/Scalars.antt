-- Documents that hold no characters and no parts. Only private clauses cite it.
use Rattle.std.specs.Prelude.{⊤}
use Rattle.mp_tree.specs.Document.{Document, null, flag, whole}

-- null, a truth value or a number
abbrev pub IsScalar : Document → Type 0
IsScalar null = ⊤
IsScalar (flag b) = ⊤
IsScalar (whole z) = ⊤
IsScalar other = ⊥
