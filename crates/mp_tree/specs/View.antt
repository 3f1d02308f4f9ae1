-- The document that a `Doc` means.
use Rattle.std.specs.Prelude.{ℕ, ℤ, List, [], ◌∷◌, map, String, string_bytes}
use Rattle.std.specs.declared.alloc.Global.{Global}
use Rattle.mp_tree.specs.Document.{Document, null, flag, whole, string, list, object, Items, Members, no_members, put}
use Rattle.mp_tree.specs.declared.whole.Whole.{Whole}
use Rattle.mp_tree.specs.declared.doc.Doc.{Doc, fold-Doc}
use Rattle.mp_tree.specs.declared.doc.Doc.TheOpen.{Doc-F}
use Rattle.mp_tree.specs.Elements.{items_of}

-- the number that a `Whole` is
abbrev pub number_of : Whole → ℤ
number_of n = n.value

-- the map of a list of pairs
abbrev pub members_of : List (List ℕ × Document) → Members
members_of [] = no_members
members_of (m ∷ ms) = put m.0 m.1 (members_of ms)

-- a map's entries, each name as its bytes
abbrev pub byte_entries : {V : Type 0} → List (String Global × V) → List (List ℕ × V)
byte_entries es = map (λ e. (string_bytes e.0, e.1)) es

-- one level, with each part already seen as its document
abbrev pub document_step : Doc-F Document → Document
document_step Doc-F.Null = null
document_step (Doc-F.Flag b) = flag b
document_step (Doc-F.Whole n) = whole (number_of n)
document_step (Doc-F.Text s) = string (string_bytes s)
document_step (Doc-F.Items v) = list (items_of v.items)
document_step (Doc-F.Members m) = object (members_of (byte_entries m.entries))

-- the document that a `Doc` means
abbrev pub document : Doc → Document
document = fold-Doc Document document_step

-- the documents of a list's elements
abbrev pub items : List Doc → Items
items ds = items_of (map document ds)

-- ---- of whatever means documents by f

-- the elements of a list
abbrev pub items_by : {V : Type 0} → (V → Document) → List V → Items
items_by f vs = items_of (map f vs)

-- the members of a map's entries
abbrev pub members_by : {V : Type 0} → (V → Document) → List (String Global × V) → Members
members_by f es = members_of (map (λ e. (string_bytes e.0, f e.1)) es)
