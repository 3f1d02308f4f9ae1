-- Making the documents that are shapes: the members that are put, and how deep they are.
use Rattle.std.proofs.Common.{◌≡◌, ◌≤◌, ◌+◌, ◌∷◌, ◌++◌, ℕ, List, [], map, Option, None, Some, refl, arith, codes, Bor}
use Rattle.mp_tree.specs.Document.{string, Members, put, depth, items_depth}
use Rattle.mp_tree.specs.View.{document, members_of}
use Rattle.mp_tree.specs.Elements.{items_of}
use Rattle.mp_tree.specs.declared.doc.Doc.{Doc}
use Rattle.mp_pointer.specs.Spelling.{Tokens, spell}
use Rattle.mp_patch.specs.Form.{deepest, op_member, path_member, shape, shapes, value_depth}
use Rattle.mp_patch.specs.Operation.{Operation, add, remove, replace, move, copy, test}
use Rattle.mp_patch.specs.Private.Shapes.{origin_shown, value_shown}

-- a map with the origin of a shape, and with its value, if it has them
abbrev pub with_origin : Option (Bor Tokens) → Members → Members
with_origin None ms = ms
with_origin (Some origin) ms = put (codes "from") (string (spell origin.now)) ms

abbrev pub with_value : Option (Bor Doc) → Members → Members
with_value None ms = ms
with_value (Some value) ms = put (codes "value") (document value.now) ms

-- in whatever order its members are put, the map is one
pub shape_members : (name : List ℕ) (t : Tokens) (origin : Option (Bor Tokens)) (value : Option (Bor Doc))
    → with_value value (with_origin origin (members_of (op_member name ∷ path_member t ∷ []))) ≡ members_of (op_member name ∷ path_member t ∷ origin_shown origin ++ value_shown value)
shape_members name t None None = refl
shape_members name t None (Some value) = refl
shape_members name t (Some origin) None = refl
shape_members name t (Some origin) (Some value) = refl

shape-depth : (o : Operation) → depth (shape o) ≤ value_depth o + 1
shape-depth (add t v) = omega arith
shape-depth (remove t) = omega arith
shape-depth (replace t v) = omega arith
shape-depth (move f t) = omega arith
shape-depth (copy f t) = omega arith
shape-depth (test t v) = omega arith

each-depth : (operations : List Operation) → items_depth (items_of (map shape operations)) ≤ deepest operations + 1
each-depth [] = omega arith
each-depth (o ∷ operations) = omega (arith, shape-depth o, each-depth operations)

pub shapes-depth : (operations : List Operation) → depth (shapes operations) ≤ 2 + deepest operations
shapes-depth operations = omega (arith, each-depth operations)
