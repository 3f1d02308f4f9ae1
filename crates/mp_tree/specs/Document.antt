-- What a JSON document is (RFC 8259 section 3, with whole numbers alone): null, a truth value, a whole number,
-- a text, an array of documents, or an object: a finite map from names to documents. Texts and names are UTF-8 bytes.
use Rattle.std.specs.Prelude.{◌≡◌, ◌≤◌, ◌≤ℤ◌, ◌^◌, ◌-◌, ℕ, suc, max, ℤ, pos, negsuc, List, Bool, cond, Option, None}
use Rattle.std.specs.Prelude.{Some, ⊤, IsUtf8}
use Rattle.std.specs.declared.cmp.Ordering.{Ordering}
use Rattle.std.specs.declared.cmp.Ordering.TheVariants.{Less}
use Rattle.std.specs.Ordering.{nat_cmp, match_ordering, is_eq}
use Rattle.std.specs.Cmp.Lexicographic.{slice_cmp}

mutual
  -- a JSON value
  pub data Document : Type 0 where
    null : Document
    flag : Bool → Document
    whole : ℤ → Document
    string : List ℕ → Document
    list : Items → Document
    object : Members → Document

  -- the elements of an array, in order
  pub data Items : Type 0 where
    no_items : Items
    item : Document → Items → Items

  -- the names of an object, each with its value
  pub data Members : Type 0 where
    no_members : Members
    member : List ℕ → Document → Members → Members

-- ---- an object's names

-- names are ordered by their UTF-8 bytes
abbrev pub name_cmp : List ℕ → List ℕ → Ordering
name_cmp = slice_cmp nat_cmp

abbrev pub is_name : List ℕ → List ℕ → Bool
is_name n m = is_eq (name_cmp n m)

-- the value at the name n
abbrev pub find : List ℕ → Members → Option Document
find n no_members = None
find n (member m d ms) = cond (is_name n m) (Some d) (find n ms)

-- the members with n set to d
abbrev pub put : List ℕ → Document → Members → Members
put n d no_members = member n d no_members
put n d (member m e ms) =
    match_ordering (name_cmp n m) (member n d (member m e ms)) (member n d ms) (member m e (put n d ms))

-- the members without n
abbrev pub without : List ℕ → Members → Members
without n no_members = no_members
without n (member m d ms) = cond (is_name n m) ms (member m d (without n ms))

-- n is below each name of the members
abbrev pub IsBelow : List ℕ → Members → Type 0
IsBelow n no_members = ⊤
IsBelow n (member m d ms) = (name_cmp n m ≡ Less) × IsBelow n ms

-- Each object has its names once, in ascending order: such a list of members is a finite map.
abbrev mutual
  pub IsDocument : Document → Type 0
  IsDocument (list ds) = AreDocuments ds
  IsDocument (object ms) = IsMap ms
  IsDocument scalar = ⊤

  pub AreDocuments : Items → Type 0
  AreDocuments no_items = ⊤
  AreDocuments (item d ds) = IsDocument d × AreDocuments ds

  pub IsMap : Members → Type 0
  IsMap no_members = ⊤
  IsMap (member n d ms) = IsDocument d × IsBelow n ms × IsMap ms

-- ---- depth, numbers and texts

-- 0 for a scalar; one more than the deepest part for an array or an object, and 1 for an empty one
abbrev mutual
  pub depth : Document → ℕ
  depth (list ds) = suc (items_depth ds)
  depth (object ms) = suc (members_depth ms)
  depth scalar = 0

  pub items_depth : Items → ℕ
  items_depth no_items = 0
  items_depth (item d ds) = max (depth d) (items_depth ds)

  pub members_depth : Members → ℕ
  members_depth no_members = 0
  members_depth (member n d ms) = max (depth d) (members_depth ms)

-- the deepest document that is read
abbrev pub depth_limit : ℕ
depth_limit = 126

-- from -2^63 to 2^64 - 1
abbrev pub IsWhole : ℤ → Type 0
IsWhole z = (negsuc (2 ^ 63 - 1) ≤ℤ z) × (z ≤ℤ pos (2 ^ 64 - 1))

-- N holds of each number, and S of each text and of each name
abbrev mutual
  pub Throughout : (ℤ → Type 0) → (List ℕ → Type 0) → Document → Type 0
  Throughout N S (whole z) = N z
  Throughout N S (string s) = S s
  Throughout N S (list ds) = ThroughoutItems N S ds
  Throughout N S (object ms) = ThroughoutMembers N S ms
  Throughout N S other = ⊤

  pub ThroughoutItems : (ℤ → Type 0) → (List ℕ → Type 0) → Items → Type 0
  ThroughoutItems N S no_items = ⊤
  ThroughoutItems N S (item d ds) = Throughout N S d × ThroughoutItems N S ds

  pub ThroughoutMembers : (ℤ → Type 0) → (List ℕ → Type 0) → Members → Type 0
  ThroughoutMembers N S no_members = ⊤
  ThroughoutMembers N S (member n d ms) = S n × Throughout N S d × ThroughoutMembers N S ms

-- each number is within the number rule
abbrev pub IsInRange : Document → Type 0
IsInRange = Throughout IsWhole (λ s. ⊤)

-- each text and each name is UTF-8
abbrev pub HasTexts : Document → Type 0
HasTexts = Throughout (λ z. ⊤) IsUtf8

-- what can be read: its objects are maps, its texts UTF-8, its numbers and its depth within the rules
pub record IsReadable (d : Document) : Type 0 where
  pub is_document : IsDocument d
  pub has_texts : HasTexts d
  pub in_range : IsInRange d
  pub within : depth d ≤ depth_limit
