-- How many bytes the text of an array or an object has. Only private clauses cite it.
use Rattle.std.specs.Prelude.{◌+◌, ℕ, max, length}
use Rattle.json.specs.Print.{quoted}
use Rattle.mp_tree.specs.Document.{Items, no_items, item, Members, no_members, member}
use Rattle.mp_tree.specs.Text.{text}

-- each element with what stands after it: a comma or the closing bracket
abbrev pub items_length : Items → ℕ
items_length no_items = 0
items_length (item d ds) = length (text d) + 1 + items_length ds

-- each name with a colon and its value, and what stands after it
abbrev pub members_length : Members → ℕ
members_length no_members = 0
members_length (member n d ms) = length (quoted n) + 1 + length (text d) + 1 + members_length ms

-- with the opening bracket, and the closing one where nothing stands before it
abbrev pub bracketed : ℕ → ℕ
bracketed parts = 1 + max 1 parts
