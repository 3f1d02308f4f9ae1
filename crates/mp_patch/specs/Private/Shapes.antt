-- What of an operation is written. Only private clauses cite it.
use Rattle.std.specs.Prelude.{◌∷◌, ◌++◌, [], ℕ, List, Option, None, Some}
use Rattle.std.specs.Borrow.{Bor}
use Rattle.mp_tree.specs.Document.{Document}
use Rattle.mp_tree.specs.View.{document}
use Rattle.mp_tree.specs.declared.doc.Doc.{Doc}
use Rattle.mp_pointer.specs.Spelling.{Tokens}
use Rattle.mp_patch.specs.Form.{op_member, path_member, from_member, value_member}
use Rattle.mp_patch.specs.Private.Names.{name_of}
use Rattle.mp_patch.specs.declared.shape.Shape.{Shape}

abbrev pub origin_shown : Option (Bor Tokens) → List (List ℕ × Document)
origin_shown None = []
origin_shown (Some origin) = from_member origin.now ∷ []

abbrev pub value_shown : Option (Bor Doc) → List (List ℕ × Document)
value_shown None = []
value_shown (Some value) = value_member (document value.now) ∷ []

-- the members of a shape
abbrev pub shown : Shape → List (List ℕ × Document)
shown shape = op_member (name_of shape.name) ∷ path_member shape.path.now ∷ origin_shown shape.origin ++ value_shown shape.value
