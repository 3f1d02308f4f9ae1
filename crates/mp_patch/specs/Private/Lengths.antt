-- How many bytes the text of an operation has. Only private clauses cite it.
use Rattle.std.specs.Prelude.{◌+◌, ℕ, length, Option, None, Some}
use Rattle.std.specs.Borrow.{Bor}
use Rattle.mp_tree.specs.Document.{string}
use Rattle.mp_tree.specs.Text.{text}
use Rattle.mp_tree.specs.View.{document}
use Rattle.mp_tree.specs.declared.doc.Doc.{Doc}
use Rattle.mp_pointer.specs.Spelling.{Tokens, spell}
use Rattle.mp_patch.specs.Private.Names.{name_of}
use Rattle.mp_patch.specs.declared.shape.Shape.{Shape}

-- of a member that not every operation has: with its name, a colon and a comma
abbrev pub origin_length : Option (Bor Tokens) → ℕ
origin_length None = 0
origin_length (Some origin) = 8 + length (text (string (spell origin.now)))

abbrev pub value_length : Option (Bor Doc) → ℕ
value_length None = 0
value_length (Some value) = 9 + length (text (document value.now))

-- with the brackets, and the members that each operation has
abbrev pub shape_length : Shape → ℕ
shape_length s = 17 + length (name_of s.name) + length (text (string (spell s.path.now))) + origin_length s.origin + value_length s.value
