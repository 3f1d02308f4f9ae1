-- The operations of a JSON Patch (RFC 6902 section 4): each says of two documents what their parts are, before and
-- after.
use Rattle.std.specs.Prelude.{◌≡◌, ◌≢◌, ◌⊎◌, ℕ, codes, List, [], ◌∷◌, ◌++◌, Some, ⊤}
use Rattle.mp_tree.specs.Document.{Document, list, object, Items, no_items, item, Members, find, put, without}
use Rattle.mp_tree.specs.Document.{IsDocument}
use Rattle.mp_pointer.specs.Difference.{DifferOnlyAt}
use Rattle.mp_pointer.specs.Part.{part, numeral}
use Rattle.mp_tree.specs.Elements.{count_of, append}
use Rattle.mp_pointer.specs.Spelling.{Tokens}

-- each place is a pointer's list of tokens
pub data Operation : Type 0 where
  add : Tokens → Document → Operation
  remove : Tokens → Operation
  replace : Tokens → Document → Operation
  -- from where the part is, and to where it goes
  move : Tokens → Tokens → Operation
  copy : Tokens → Tokens → Operation
  test : Tokens → Document → Operation

-- ---- a change in the object or the array that holds a place

-- t is the tokens of a container and then the last token; the container changes as `Change` says, and nothing else does
pub record ChangesContainer (Change : List ℕ → Document → Document → Type 0) (t : Tokens)
    (d e : Document) : Type 0 where
  pub container : Tokens
  pub last : List ℕ
  pub is : t ≡ container ++ last ∷ []
  pub before : Document
  pub after : Document
  pub stood : part d container ≡ Some before
  pub stands : part e container ≡ Some after
  pub changed : Change last before after
  pub only : DifferOnlyAt container d e

-- `-`, which names the place after the last element
abbrev pub dash : List ℕ
dash = codes "-"

-- the token names the place between front and back: by its index, or as the place after the last element
abbrev pub NamesPlace : List ℕ → Items → Items → Type 0
NamesPlace token front back = (token ≡ numeral (count_of front)) ⊎ ((token ≡ dash) × (back ≡ no_items))

-- v is set at a name of an object, or inserted at a place in an array
pub data AddsTo (v : Document) (token : List ℕ) (before after : Document) : Type 0 where
  to_map : (ms : Members) → before ≡ object ms → after ≡ object (put token v ms) → AddsTo v token before after
  to_list : (front back : Items) → NamesPlace token front back
      → before ≡ list (append front back) → after ≡ list (append front (item v back)) → AddsTo v token before after

-- a name that an object has goes away, or an element of an array
pub data RemovesFrom (token : List ℕ) (before after : Document) : Type 0 where
  from_map : (ms : Members) (x : Document) → find token ms ≡ Some x
      → before ≡ object ms → after ≡ object (without token ms) → RemovesFrom token before after
  from_list : (front back : Items) (x : Document) → token ≡ numeral (count_of front)
      → before ≡ list (append front (item x back)) → after ≡ list (append front back) → RemovesFrom token before after

-- ---- the operations

-- section 4.1: at the empty list, v takes the document's place
abbrev pub Adds : Tokens → Document → Document → Document → Type 0
Adds t v d e = ((t ≡ []) × (e ≡ v)) ⊎ ChangesContainer (AddsTo v) t d e

-- section 4.2
abbrev pub Removes : Tokens → Document → Document → Type 0
Removes t d e = ChangesContainer RemovesFrom t d e

-- section 4.3: what is at t becomes v
abbrev pub Replaces : Tokens → Document → Document → Document → Type 0
Replaces t v d e = ((x : Document) × (part d t ≡ Some x)) × (part e t ≡ Some v) × DifferOnlyAt t d e

-- section 4.4: a move to where the part is leaves the document as it is; another one removes the part, and adds it to
-- what is left
abbrev pub Moves : Tokens → Tokens → Document → Document → Type 0
Moves f t d e =
    (x : Document) × (part d f ≡ Some x)
    × (((f ≡ t) × (e ≡ d)) ⊎ ((f ≢ t) × (left : Document) × Removes f d left × Adds t x left e))

-- section 4.5: the part is added at t too
abbrev pub Copies : Tokens → Tokens → Document → Document → Type 0
Copies f t d e = (x : Document) × (part d f ≡ Some x) × Adds t x d e

-- from d, the operation leads to e
abbrev pub Step : Document → Operation → Document → Type 0
Step d (add t v) e = Adds t v d e
Step d (remove t) e = Removes t d e
Step d (replace t v) e = Replaces t v d e
Step d (move f t) e = Moves f t d e
Step d (copy f t) e = Copies f t d e
-- section 4.6: what is at t is v, and the document stays as it is
Step d (test t v) e = (part d t ≡ Some v) × (e ≡ d)

-- the value of each operation is a document
abbrev pub HasDocument : Operation → Type 0
HasDocument (add t v) = IsDocument v
HasDocument (remove t) = ⊤
HasDocument (replace t v) = IsDocument v
HasDocument (move f t) = ⊤
HasDocument (copy f t) = ⊤
HasDocument (test t v) = IsDocument v

abbrev pub HaveDocuments : List Operation → Type 0
HaveDocuments [] = ⊤
HaveDocuments (o ∷ operations) = HasDocument o × HaveDocuments operations
