-- From a document to the data that it is written as, part by part.
use Rattle.std.proofs.Common.{◌≡◌, ℕ, suc, List, [], ◌∷◌, map, length, Less, String, Global, string_bytes, string_cmp, refl, ap, ◌∙◌}
use Rattle.std.specs.List.{AllByRecursion}
use Rattle.std.specs.List.Sorted.{IsStrictlySortedBy}
use Rattle.std.specs.Map.{keys_of}
use Rattle.serde_json.specs.Data as json
use Rattle.serde_json.specs.Events.{items_len, members_len}
use Rattle.mp_tree.specs.Document.{Document, Members, no_members, member, put, IsBelow}
use Rattle.mp_tree.specs.Elements.{items_of}
use Rattle.mp_tree.specs.View.{members_by}
use Rattle.mp_tree.specs.Text.{data_of, items_data, members_data}
use Rattle.mp_tree.proofs.Maps.Finite.{IsBelow-put}

-- the members that a map's entries are written as
abbrev pub entries_data_by : {V : Type 0} → (V → Document) → List (String Global × V) → json.Members
entries_data_by f [] = json.no_members
entries_data_by f (e ∷ es) = json.member (string_bytes e.0) (data_of (f e.1)) (entries_data_by f es)

-- a name below the others goes first
pub put-below : (n : List ℕ) (d : Document) (ms : Members) → IsBelow n ms → put n d ms ≡ member n d ms
put-below n d no_members below = refl
put-below n d (member m e ms) below = rw below.0

module _ {V : Type 0} (f : V → Document) where
  pub items_len-by : (ds : List V) → items_len (items_data (items_of (map f ds))) ≡ length ds
  items_len-by [] = refl
  items_len-by (d ∷ ds) = ap suc (items_len-by ds)

  pub members_len-by : (es : List (String Global × V)) → members_len (entries_data_by f es) ≡ length es
  members_len-by [] = refl
  members_len-by (e ∷ es) = ap suc (members_len-by es)

  pub IsBelow-by : (k : String Global) (es : List (String Global × V)) → AllByRecursion (λ l. string_cmp k l ≡ Less) (keys_of es) → IsBelow (string_bytes k) (members_by f es)
  IsBelow-by k [] above = tt
  IsBelow-by k (e ∷ es) above = IsBelow-put (string_bytes k) (string_bytes e.0) (f e.1) (members_by f es) above.0 (IsBelow-by k es above.1)

  -- the first entry goes first where the keys ascend
  pub members-cons-by : (e : String Global × V) (es : List (String Global × V)) → IsStrictlySortedBy string_cmp (keys_of (e ∷ es)) → members_by f (e ∷ es) ≡ member (string_bytes e.0) (f e.1) (members_by f es)
  unfolding IsStrictlySortedBy
  members-cons-by e es ascending = put-below (string_bytes e.0) (f e.1) (members_by f es) (IsBelow-by e.0 es ascending.0)

  -- the entries of a map are written as its members are
  pub members_data-by : (es : List (String Global × V)) → IsStrictlySortedBy string_cmp (keys_of es) → members_data (members_by f es) ≡ entries_data_by f es
  unfolding IsStrictlySortedBy
  members_data-by [] ascending = refl
  members_data-by (e ∷ es) ascending = ap members_data (members-cons-by e es ascending) ∙ ap (json.member (string_bytes e.0) (data_of (f e.1))) (members_data-by es ascending.1)
