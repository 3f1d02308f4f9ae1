-- How many bytes the text of a shape has, and that of a patch.
use Rattle.std.proofs.Common.{◌≡◌, ◌≢◌, ◌≤◌, ◌<◌, ◌+◌, ◌∷◌, [], ℕ, List, length, map, drop, get_or, Option, None, Some, Bor, refl, sym, ap, ◌∙◌, arith}
use Rattle.std.proofs.lemmas.List.{drop_more}
use Rattle.json.specs.Print.{quoted, escape_byte}
use Rattle.mp_tree.specs.Document.{object}
use Rattle.mp_tree.specs.Elements.{items_of}
use Rattle.mp_tree.specs.Private.Lengths.{bracketed, items_length, members_length}
use Rattle.mp_tree.specs.Text.{text}
use Rattle.mp_tree.specs.View.{members_of}
use Rattle.mp_tree.specs.declared.doc.Doc.{Doc}
use Rattle.mp_tree.proofs.Facts.{length-list, length-object}
use Rattle.mp_pointer.specs.Spelling.{Tokens}
use Rattle.mp_patch.specs.Form.{needed_members, shape, shapes}
use Rattle.mp_patch.specs.Operation.{Operation}
use Rattle.mp_patch.specs.Private.Lengths.{shape_length}
use Rattle.mp_patch.specs.Private.Names.{name_of}
use Rattle.mp_patch.specs.Private.Shapes.{shown}
use Rattle.mp_patch.specs.View.{operation_of, operations_of}
use Rattle.mp_patch.specs.declared.name.OpName.{OpName}
use Rattle.mp_patch.specs.declared.name.OpName.TheVariants.{Add, Remove, Replace, Move, Copy, Test}
use Rattle.mp_patch.specs.declared.op.Op.{Op}
use Rattle.mp_patch.specs.declared.shape.Shape.{Shape}

-- no name of an operation has a byte that is escaped
name-length : (name : OpName) → length (quoted (name_of name)) ≡ 2 + length (name_of name)
unfolding escape_byte
name-length Add = refl
name-length Remove = refl
name-length Replace = refl
name-length Move = refl
name-length Copy = refl
name-length Test = refl

members-length : (name : OpName) (path : Bor Tokens) (origin : Option (Bor Tokens)) (value : Option (Bor Doc)) → let s : Shape = record { name = name; path = path; origin = origin; value = value } in
    1 + members_length (members_of (shown s)) ≡ shape_length s
unfolding escape_byte
members-length name path None None = omega (arith, name-length name)
members-length name path None (Some value) = omega (arith, name-length name)
members-length name path (Some origin) None = omega (arith, name-length name)
members-length name path (Some origin) (Some value) = omega (arith, name-length name)

pub shape-length : (s : Shape) (o : Operation) → shown s ≡ needed_members o → shape_length s ≡ length (text (shape o))
shape-length s o is = omega (arith, members-length s.name s.path s.origin s.value, length-object (members_of (shown s)), ap (λ ms. length (text (object (members_of ms)))) is)

-- ---- of a patch: each operation with what stands after it

abbrev pub parts_length : List (Op Doc) → ℕ
parts_length ops = items_length (items_of (map shape (operations_of ops)))

pub patch-length : (ops : List (Op Doc)) → length (text (shapes (operations_of ops))) ≡ bracketed (parts_length ops)
patch-length ops = length-list (items_of (map shape (operations_of ops)))

pub some_length : (ops : List (Op Doc)) → ops ≢ [] → 1 ≤ parts_length ops
some_length [] some = absurd (some refl)
some_length (op ∷ ops) some = omega arith

-- from one operation on
pub next_length : (ops : List (Op Doc)) (i : ℕ) (op : Op Doc) → i < length ops → op ≡ get_or ops i op → parts_length (drop i ops) ≡ length (text (shape (operation_of op))) + 1 + parts_length (drop (i + 1) ops)
next_length ops i op within is = ap parts_length (drop_more ops i op within ∙ ap (λ o. o ∷ drop (i + 1) ops) (sym is))
