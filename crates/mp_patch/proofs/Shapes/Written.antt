-- The data that a patch is written as.
use Rattle.std.proofs.Common.{◌≡◌, suc, List, [], ◌∷◌, Option, None, Some, Bor, length, map, refl, sym, ap, ◌∙◌, subst, codes}
use Rattle.serde.specs.Event.{Log, Logs, field_key, map_begins, map_ends}
use Rattle.serde.specs.Event as event
use Rattle.serde.specs.declared.name.Case.TheVariants.{AsIs}
use Rattle.serde_json.specs.Data as json
use Rattle.serde_json.specs.Events.{items_len, members_len, SendsMembers, SendsValue}
use Rattle.mp_tree.specs.Document.{object, string}
use Rattle.mp_tree.specs.Text.{data_of, items_data, members_data}
use Rattle.mp_tree.specs.Elements.{items_of}
use Rattle.mp_tree.specs.View.{document, members_of}
use Rattle.mp_tree.specs.declared.doc.Doc.{Doc}
use Rattle.mp_pointer.specs.Spelling.{Tokens, spell}
use Rattle.mp_patch.specs.Form.{shape}
use Rattle.mp_patch.specs.Private.Names.{name_of}
use Rattle.mp_patch.specs.Private.Shapes.{shown}
use Rattle.mp_patch.specs.View.{operations_of}
use Rattle.mp_patch.specs.declared.name.OpName.{OpName}
use Rattle.mp_patch.specs.declared.op.Op.{Op}
use Rattle.mp_patch.specs.declared.shape.Shape.{Shape}

abbrev pub shapes_data : List (Op Doc) → json.Items
shapes_data ops = items_data (items_of (map shape (operations_of ops)))

pub items_len-shapes : (ops : List (Op Doc)) → items_len (shapes_data ops) ≡ length ops
items_len-shapes [] = refl
items_len-shapes (op ∷ ops) = ap suc (items_len-shapes ops)

-- ---- one operation

-- the members in the order of their names
abbrev origin_data : Option (Bor Tokens) → json.Members → json.Members
origin_data None ms = ms
origin_data (Some origin) ms = json.member (codes "from") (data_of (string (spell origin.now))) ms

abbrev value_data : Option (Bor Doc) → json.Members
value_data None = json.no_members
value_data (Some value) = json.member (codes "value") (data_of (document value.now)) json.no_members

abbrev shape_data : Shape → json.Members
shape_data s = origin_data s.origin (json.member (codes "op") (data_of (string (name_of s.name))) (json.member (codes "path") (data_of (string (spell s.path.now))) (value_data s.value)))

in_order : (name : OpName) (path : Bor Tokens) (origin : Option (Bor Tokens)) (value : Option (Bor Doc)) → let s : Shape = record { name = name; path = path; origin = origin; value = value } in members_data (members_of (shown s)) ≡ shape_data s
in_order name path None None = refl
in_order name path None (Some value) = refl
in_order name path (Some origin) None = refl
in_order name path (Some origin) (Some value) = refl

as_long : (name : OpName) (path : Bor Tokens) (origin : Option (Bor Tokens)) (value : Option (Bor Doc)) → let s : Shape = record { name = name; path = path; origin = origin; value = value } in members_len (shape_data s) ≡ length (shown s)
as_long name path None None = refl
as_long name path None (Some value) = refl
as_long name path (Some origin) None = refl
as_long name path (Some origin) (Some value) = refl

-- what is sent of the origin, and of the value
abbrev pub SendsOriginMember : Option (Bor Tokens) → Log → Log → Type 0
SendsOriginMember None old new = new ≡ old
SendsOriginMember (Some origin) old new = (named : Log) × Logs old named (field_key (codes "from") AsIs) × SendsValue (data_of (string (spell origin.now))) named new

abbrev pub SendsValueMember : Option (Bor Doc) → Log → Log → Type 0
SendsValueMember None old new = new ≡ old
SendsValueMember (Some value) old new = (named : Log) × Logs old named (field_key (codes "value") AsIs) × SendsValue (data_of (document value.now)) named new

origin_first : (origin : Option (Bor Tokens)) (ms : json.Members) (old new end : Log) → SendsOriginMember origin old new → SendsMembers ms new end → SendsMembers (origin_data origin ms) old end
origin_first None ms old new end same rest = subst (λ log. SendsMembers ms log end) same rest
origin_first (Some origin) ms old new end sent rest = (sent.0, new, sent.1, sent.2, rest)

value_last : (value : Option (Bor Doc)) (old new end : Log) → SendsValueMember value old new → Logs new end map_ends → SendsMembers (value_data value) old end
value_last None old new end same ends = subst (λ log. Logs log end map_ends) same ends
value_last (Some value) old new end sent ends = (sent.0, new, sent.1, sent.2, ends)

module _ (s : Shape) (old first named op_named op_sent path_named path_sent last end : Log) where
  -- its members are sent one after another
  pub sends_shape : Logs old first (map_begins (Some (length (shown s)))) → SendsOriginMember s.origin first named
      → Logs named op_named (field_key (codes "op") AsIs) → Logs op_named op_sent (event.text (name_of s.name))
      → Logs op_sent path_named (field_key (codes "path") AsIs) → SendsValue (data_of (string (spell s.path.now))) path_named path_sent
      → SendsValueMember s.value path_sent last → Logs last end map_ends
      → SendsValue (data_of (object (members_of (shown s)))) old end
  sends_shape begins origin op name path spelling value ends = (
    first,
    subst (λ n. Logs old first (map_begins (Some n))) (sym (ap members_len (in_order s.name s.path s.origin s.value) ∙ as_long s.name s.path s.origin s.value)) begins,
    subst (λ ms. SendsMembers ms first end) (sym (in_order s.name s.path s.origin s.value))
        (origin_first s.origin _ first named end origin (op_named, op_sent, op, name, (path_named, path_sent, path, spelling, value_last s.value path_sent last end value ends))),
  )
