-- The members that the entries of a map are. Only private clauses cite it.
use Rattle.std.specs.Prelude.{List, map, String, string_bytes}
use Rattle.std.specs.declared.alloc.Global.{Global}
use Rattle.serde_json.specs.declared.value.Value.{Value}
use Rattle.mp_tree.specs.Document.{Members}
use Rattle.mp_tree.specs.Values.{value_document}
use Rattle.mp_tree.specs.View.{document, members_of}
use Rattle.mp_tree.specs.declared.doc.Doc.{Doc}

-- the members of a map's entries
abbrev pub members : List (String Global × Doc) → Members
members es = members_of (map (λ e. (string_bytes e.0, document e.1)) es)

-- the members of the entries of a map of values
abbrev pub value_members : List (String Global × Value) → Members
value_members es = members_of (map (λ e. (string_bytes e.0, value_document e.1)) es)
