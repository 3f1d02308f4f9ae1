-- The weight of a document in bytes: about what it takes in memory, and never less than it takes once it is made.
use Rattle.std.specs.Prelude.{◌+◌, ℕ, length}
use Rattle.mp_tree.specs.Document.{Document, string, list, object, Items, no_items, item, Members, no_members, member}

-- of null, a truth value or a number
abbrev pub scalar_weight : ℕ
scalar_weight = 40

-- of a string, beside its bytes
abbrev pub string_weight : ℕ
string_weight = 80

-- of an array, beside its elements
abbrev pub array_weight : ℕ
array_weight = 80

-- of an object, beside its names and their values
abbrev pub object_weight : ℕ
object_weight = 1000

-- of a name of an object, beside its bytes and its value
abbrev pub name_weight : ℕ
name_weight = 128

abbrev mutual
  pub weight : Document → ℕ
  weight (string s) = string_weight + length s
  weight (list ds) = array_weight + items_weight ds
  weight (object ms) = object_weight + members_weight ms
  weight scalar = scalar_weight

  pub items_weight : Items → ℕ
  items_weight no_items = 0
  items_weight (item d ds) = weight d + items_weight ds

  pub members_weight : Members → ℕ
  members_weight no_members = 0
  members_weight (member n d ms) = name_weight + length n + weight d + members_weight ms
