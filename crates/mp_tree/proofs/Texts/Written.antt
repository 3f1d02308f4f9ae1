-- What is written for a document, and what is read of it.
use Rattle.std.proofs.Common.{◌≡◌, ◌≤◌, ℕ, ℤ, pos, negsuc, suc, max, List, Option, Some, None, option_map, option_and_then, Bool, false, ◌||◌, IfSome, refl, ap, ap₂, arith}
use Rattle.serde_json.specs.Data as json
use Rattle.serde_json.specs.Data.{Data}
use Rattle.serde_json.specs.Find.{of_integer, is_float}
use Rattle.serde_json.specs.Written.{has_float, items_have_float, members_have_float}
use Rattle.mp_tree.specs.Document.{Document, whole, list, object, Items, no_items, item, Members, no_members, member, put, depth, items_depth, members_depth, IsDocument, AreDocuments, IsMap}
use Rattle.mp_tree.specs.Text.{whole_number, from_data, items_from_data, members_from_data, data_of, items_data, members_data}
use Rattle.mp_tree.proofs.Texts.IntoData.{put-below}
use Rattle.mp_tree.proofs.Documents.Depths.{members_depth-put}

-- ---- no float is written

is_float-of_integer : (z : ℤ) → is_float (of_integer z) ≡ false
is_float-of_integer (pos n) = refl
is_float-of_integer (negsuc n) = refl

both_false : (a b : Bool) → a ≡ false → b ≡ false → (a || b) ≡ false
both_false a b x y = rw (x, y)

mutual
  pub has_float-data_of : (d : Document) → has_float (data_of d) ≡ false
  has_float-data_of (whole z) = is_float-of_integer z
  has_float-data_of (list ds) = items_have_float-data ds
  has_float-data_of (object ms) = members_have_float-data ms
  has_float-data_of other = refl

  items_have_float-data : (ds : Items) → items_have_float (items_data ds) ≡ false
  items_have_float-data no_items = refl
  items_have_float-data (item d ds) = both_false _ _ (has_float-data_of d) (items_have_float-data ds)

  members_have_float-data : (ms : Members) → members_have_float (members_data ms) ≡ false
  members_have_float-data no_members = refl
  members_have_float-data (member n d ms) = both_false _ _ (has_float-data_of d) (members_have_float-data ms)

-- ---- what is written is as deep as the document

mutual
  pub depth-data_of : (d : Document) → json.depth (data_of d) ≡ depth d
  depth-data_of (list ds) = ap suc (items_depth-data ds)
  depth-data_of (object ms) = ap suc (members_depth-data ms)
  depth-data_of other = refl

  items_depth-data : (ds : Items) → json.items_depth (items_data ds) ≡ items_depth ds
  items_depth-data no_items = refl
  items_depth-data (item d ds) = ap₂ max (depth-data_of d) (items_depth-data ds)

  members_depth-data : (ms : Members) → json.members_depth (members_data ms) ≡ members_depth ms
  members_depth-data no_members = refl
  members_depth-data (member n d ms) = ap₂ max (depth-data_of d) (members_depth-data ms)

-- ---- the data of a document is read as that document

whole_number-of_integer : (z : ℤ) → whole_number (of_integer z) ≡ Some z
whole_number-of_integer (pos n) = refl
whole_number-of_integer (negsuc n) = refl

mutual
  pub from_data-data_of : (d : Document) → IsDocument d → from_data (data_of d) ≡ Some d
  from_data-data_of (whole z) good = rw (whole_number-of_integer z)
  from_data-data_of (list ds) good = rw (items_from_data-data ds good)
  from_data-data_of (object ms) good = rw (members_from_data-data ms good)
  from_data-data_of other good = refl

  items_from_data-data : (ds : Items) → AreDocuments ds → items_from_data (items_data ds) ≡ Some ds
  items_from_data-data no_items good = refl
  items_from_data-data (item d ds) good = rw (from_data-data_of d good.0, items_from_data-data ds good.1)

  members_from_data-data : (ms : Members) → IsMap ms → members_from_data (members_data ms) ≡ Some ms
  members_from_data-data no_members good = refl
  members_from_data-data (member n d ms) good = rw (from_data-data_of d good.0, members_from_data-data ms good.2) (ap Some (put-below n d ms good.1))

-- ---- a document that was read is no deeper than its data

number_within : (o : Option ℤ) → IfSome (option_map whole o) (λ d. depth d ≤ 0)
number_within None = tt
number_within (Some z) = omega arith

list_within : (n : ℕ) (o : Option Items) → IfSome o (λ ds. items_depth ds ≤ n) → IfSome (option_map list o) (λ d. depth d ≤ suc n)
list_within n None h = tt
list_within n (Some ds) h = omega arith

object_within : (n : ℕ) (o : Option Members) → IfSome o (λ ms. members_depth ms ≤ n) → IfSome (option_map object o) (λ d. depth d ≤ suc n)
object_within n None h = tt
object_within n (Some ms) h = omega arith

item_within : (m n : ℕ) (o : Option Document) (r : Option Items) → IfSome o (λ d. depth d ≤ m) → IfSome r (λ ds. items_depth ds ≤ n)
    → IfSome (option_and_then (λ e. option_map (item e) r) o) (λ ds. items_depth ds ≤ max m n)
item_within m n None r h k = tt
item_within m n (Some d) None h k = tt
item_within m n (Some d) (Some ds) h k = omega arith

member_within : (name : List ℕ) (m n : ℕ) (o : Option Document) (r : Option Members) → IfSome o (λ d. depth d ≤ m) → IfSome r (λ ms. members_depth ms ≤ n)
    → IfSome (option_and_then (λ e. option_map (put name e) r) o) (λ ms. members_depth ms ≤ max m n)
member_within name m n None r h k = tt
member_within name m n (Some d) None h k = tt
member_within name m n (Some d) (Some ms) h k = omega (arith, members_depth-put name d ms)

mutual
  pub depth-from_data : (x : Data) → IfSome (from_data x) (λ d. depth d ≤ json.depth x)
  depth-from_data (json.number n) = number_within (whole_number n)
  depth-from_data (json.array xs) = list_within _ (items_from_data xs) (items_depth-from xs)
  depth-from_data (json.object ms) = object_within _ (members_from_data ms) (members_depth-from ms)
  depth-from_data other = omega arith

  items_depth-from : (xs : json.Items) → IfSome (items_from_data xs) (λ ds. items_depth ds ≤ json.items_depth xs)
  items_depth-from json.no_items = omega arith
  items_depth-from (json.item x xs) = item_within _ _ (from_data x) (items_from_data xs) (depth-from_data x) (items_depth-from xs)

  members_depth-from : (xs : json.Members) → IfSome (members_from_data xs) (λ ms. members_depth ms ≤ json.members_depth xs)
  members_depth-from json.no_members = omega arith
  members_depth-from (json.member n x xs) = member_within n _ _ (from_data x) (members_from_data xs) (depth-from_data x) (members_depth-from xs)
