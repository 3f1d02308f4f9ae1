-- How many bytes a text has.
use Rattle.std.proofs.Common.{◌≡◌, ◌+◌, ◌∷◌, ◌++◌, length, true, arith, length-append}
use Rattle.json.specs.Print.{quoted}
use Rattle.serde_json.specs.Written.{items_text, members_text}
use Rattle.mp_tree.specs.Document.{list, object, Items, no_items, item, Members, no_members, member}
use Rattle.mp_tree.specs.Text.{items_data, members_data, text}
use Rattle.mp_tree.specs.Private.Lengths.{bracketed, items_length, members_length}

-- after the first part, each has a comma in front, and the bracket is at the end
items_text-length : (ds : Items) → length (items_text true (items_data ds)) ≡ 1 + items_length ds
items_text-length no_items = omega arith
items_text-length (item d ds) = omega (arith, length-append (text d) (items_text true (items_data ds)), items_text-length ds)

members_text-length : (ms : Members) → length (members_text true (members_data ms)) ≡ 1 + members_length ms
members_text-length no_members = omega arith
members_text-length (member n d ms) =
    omega (arith, length-append (quoted n) (58 ∷ (text d ++ members_text true (members_data ms))), length-append (text d) (members_text true (members_data ms)), members_text-length ms)

pub length-list : (ds : Items) → length (text (list ds)) ≡ bracketed (items_length ds)
length-list no_items = omega arith
length-list (item d ds) = omega (arith, length-append (text d) (items_text true (items_data ds)), items_text-length ds)

pub length-object : (ms : Members) → length (text (object ms)) ≡ bracketed (members_length ms)
length-object no_members = omega arith
length-object (member n d ms) =
    omega (arith, length-append (quoted n) (58 ∷ (text d ++ members_text true (members_data ms))), length-append (text d) (members_text true (members_data ms)), members_text-length ms)
