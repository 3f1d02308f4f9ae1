-- The document that a value of `serde_json` means. It is the document that is read of the value (`Text`), if each number is
-- whole and from -2^63 to 2^64 - 1; a number that is not means 0.
use Rattle.std.specs.Prelude.{◌^◌, ◌-◌, ◌&&◌, ℤ, pos, negsuc, int_le, if◌then◌else◌, Option, None, Some, string_bytes}
use Rattle.std.specs.Prelude.{List, map}
use Rattle.serde_json.specs.View.{number_view}
use Rattle.serde_json.specs.declared.number.Number.{Number}
use Rattle.serde_json.specs.declared.value.Value.{Value, fold-Value}
use Rattle.serde_json.specs.declared.value.Value.TheOpen.{Value-F}
use Rattle.mp_tree.specs.Document.{Document, null, flag, whole, string, list, object, Items}
use Rattle.mp_tree.specs.Elements.{items_of}
use Rattle.mp_tree.specs.Text.{whole_number}
use Rattle.mp_tree.specs.View.{byte_entries, members_of}

-- the number that is there, if it is from -2^63 to 2^64 - 1, and else 0
unfoldable pub number_or_zero : Option ℤ → ℤ
number_or_zero None = pos 0
number_or_zero (Some z) = if int_le (negsuc (2 ^ 63 - 1)) z && int_le z (pos (2 ^ 64 - 1)) then z else pos 0

-- what a number of `serde_json` means
abbrev pub number_in : Number → ℤ
number_in n = number_or_zero (whole_number (number_view n))

-- one level, with each part already seen as its document
abbrev pub value_step : Value-F Document → Document
value_step Value-F.Null = null
value_step (Value-F.Bool b) = flag b
value_step (Value-F.Number n) = whole (number_in n)
value_step (Value-F.String s) = string (string_bytes s)
value_step (Value-F.Array v) = list (items_of v.items)
value_step (Value-F.Object m) = object (members_of (byte_entries m.entries))

-- the document that a value means
abbrev pub value_document : Value → Document
value_document = fold-Value Document value_step

-- the documents of an array's values
abbrev pub value_items : List Value → Items
value_items vs = items_of (map value_document vs)
