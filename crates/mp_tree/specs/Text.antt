-- Reading and writing (RFC 8259), over `serde_json`'s own reading and compact text.
use Rattle.std.specs.Prelude.{ℕ, ℤ, pos, nat_le, List, if◌then◌else◌, Option, None, Some, option_map, option_and_then}
use Rattle.std.specs.Prelude.{Result, Ok, Err}
use Rattle.std.specs.Option.{option_or}
use Rattle.std.specs.Str.{is_utf8}
use Rattle.serde_json.specs.Data as json
use Rattle.serde_json.specs.Data.{Data, Num}
use Rattle.serde_json.specs.Find.{as_u64, as_i64, of_integer}
use Rattle.serde_json.specs.Read as serde_json
use Rattle.serde_json.specs.Written.{compact_text}
use Rattle.mp_tree.specs.Document.{Document, null, flag, whole, string, list, object, Items, no_items, item, Members}
use Rattle.mp_tree.specs.Document.{no_members, member, put, depth, depth_limit}
use Rattle.mp_tree.specs.declared.fault.DocsFault.{DocsFault}
use Rattle.mp_tree.specs.declared.fault.DocsFault.TheVariants.{NotJson, NotWhole, NotAnArray}
use Rattle.mp_tree.specs.declared.fault.ReadFault.{ReadFault}
use Rattle.mp_tree.specs.declared.fault.ReadFault.TheVariants as fault

-- ---- reading

-- The number rule: a number is whole if `serde_json` answers it as a `u64` or as an `i64`.
abbrev pub whole_number : Num → Option ℤ
whole_number n = option_or (option_map pos (as_u64 n)) (as_i64 n)

-- the document of JSON data, none if a number is not whole
abbrev mutual
  pub from_data : Data → Option Document
  from_data json.null = Some null
  from_data (json.boolean b) = Some (flag b)
  from_data (json.number n) = option_map whole (whole_number n)
  from_data (json.string s) = Some (string s)
  from_data (json.array ds) = option_map list (items_from_data ds)
  from_data (json.object ms) = option_map object (members_from_data ms)

  pub items_from_data : json.Items → Option Items
  items_from_data json.no_items = Some no_items
  items_from_data (json.item d ds) = option_and_then (λ e. option_map (item e) (items_from_data ds)) (from_data d)

  pub members_from_data : json.Members → Option Members
  members_from_data json.no_members = Some no_members
  members_from_data (json.member n d ms) = option_and_then (λ e. option_map (put n e) (members_from_data ms)) (from_data d)

-- the data that `serde_json` reads in the bytes: none if they are not UTF-8 or no JSON text of nesting at most 127
abbrev pub data_in : List ℕ → Option Data
data_in bytes = if is_utf8 bytes then serde_json.read bytes else None

-- the document that the bytes are, however deep: none if they have no data, or a number that is not whole
abbrev pub read : List ℕ → Option Document
read bytes = option_and_then from_data (data_in bytes)

-- ---- the elements of the array that the bytes are, or the first error: not JSON, a number that is not whole, no array

-- the elements of an array, and an error for any other document
abbrev pub elements : Document → Result Items DocsFault
elements (list ds) = Ok ds
elements _ = Err NotAnArray

-- of a document, if all numbers were whole
abbrev pub whole_or_fault : Option Document → Result Items DocsFault
whole_or_fault None = Err NotWhole
whole_or_fault (Some d) = elements d

-- of data, if there was some
abbrev pub json_or_fault : Option Data → Result Items DocsFault
json_or_fault None = Err NotJson
json_or_fault (Some d) = whole_or_fault (from_data d)

-- the elements that the bytes give, or their first error
abbrev pub documents_in : List ℕ → Result Items DocsFault
documents_in bytes = json_or_fault (data_in bytes)

-- ---- the document that the bytes are, or the first error: not JSON, a number that is not whole, too deep

-- a document within the depth rule
abbrev pub shallow_document : Document → Result Document ReadFault
shallow_document d = if nat_le (depth d) depth_limit then Ok d else Err fault.TooDeep

-- of a document, if all numbers were whole
abbrev pub whole_document : Option Document → Result Document ReadFault
whole_document None = Err fault.NotWhole
whole_document (Some d) = shallow_document d

-- of data, if there was some
abbrev pub json_document : Option Data → Result Document ReadFault
json_document None = Err fault.NotJson
json_document (Some d) = whole_document (from_data d)

-- the document that the bytes give, or their first error
abbrev pub document_in : List ℕ → Result Document ReadFault
document_in bytes = json_document (data_in bytes)

-- ---- writing

-- the value that is written for a document, for its elements and for its members
abbrev mutual
  pub data_of : Document → Data
  data_of null = json.null
  data_of (flag b) = json.boolean b
  data_of (whole z) = json.number (of_integer z)
  data_of (string s) = json.string s
  data_of (list ds) = json.array (items_data ds)
  data_of (object ms) = json.object (members_data ms)

  pub items_data : Items → json.Items
  items_data no_items = json.no_items
  items_data (item d ds) = json.item (data_of d) (items_data ds)

  pub members_data : Members → json.Members
  members_data no_members = json.no_members
  members_data (member n d ms) = json.member n (data_of d) (members_data ms)

-- the compact text, names in the order in which the document has them: by their UTF-8 bytes
abbrev pub text : Document → List ℕ
text d = compact_text (data_of d)
