-- How a JSON Patch is written as a document (RFC 6902 sections 3 and 4): an array of objects, each with the members that
-- its operation needs.
use Rattle.std.specs.Prelude.{◌≡◌, ◌≢◌, ◌⊎◌, ◌∷◌, ℕ, codes, max, map, List, [], Option, None, Some, option_and_then, ⊤}
use Rattle.mp_tree.specs.Document.{Document, string, list, object, Items, no_items, item, Members, find, depth}
use Rattle.mp_tree.specs.Look.{at_name}
use Rattle.mp_tree.specs.View.{members_of}
use Rattle.mp_tree.specs.Elements.{items_of, count_of, append}
use Rattle.mp_pointer.specs.Spelling.{Tokens, spell}
use Rattle.mp_patch.specs.First.{Causes, IsFirst}
use Rattle.mp_patch.specs.Operation.{Operation, add, remove, replace, move, copy, test}
use Rattle.mp_patch.specs.declared.fault.FormCause.{FormCause}
use Rattle.mp_patch.specs.declared.fault.FormCause.TheVariants.{NotAnObject, NoOp, UnknownOp, NoPath, NoFrom}
use Rattle.mp_patch.specs.declared.fault.FormCause.TheVariants.{BadPointer, NoValue}
use Rattle.mp_patch.specs.declared.fault.FormFault.{FormFault}
use Rattle.mp_patch.specs.declared.fault.FormFault.TheVariants.{NotAnArray, Form, OutOfMemory}

-- ---- the members that an operation needs

abbrev pub op_member : List ℕ → List ℕ × Document
op_member name = (codes "op", string name)

abbrev pub path_member : Tokens → List ℕ × Document
path_member t = (codes "path", string (spell t))

abbrev pub from_member : Tokens → List ℕ × Document
from_member t = (codes "from", string (spell t))

abbrev pub value_member : Document → List ℕ × Document
value_member v = (codes "value", v)

abbrev pub needed_members : Operation → List (List ℕ × Document)
needed_members (add t v) = op_member (codes "add") ∷ path_member t ∷ value_member v ∷ []
needed_members (remove t) = op_member (codes "remove") ∷ path_member t ∷ []
needed_members (replace t v) = op_member (codes "replace") ∷ path_member t ∷ value_member v ∷ []
needed_members (move f t) = op_member (codes "move") ∷ path_member t ∷ from_member f ∷ []
needed_members (copy f t) = op_member (codes "copy") ∷ path_member t ∷ from_member f ∷ []
needed_members (test t v) = op_member (codes "test") ∷ path_member t ∷ value_member v ∷ []

-- the object of exactly these
abbrev pub shape : Operation → Document
shape o = object (members_of (needed_members o))

abbrev pub shapes : List Operation → Document
shapes operations = list (items_of (map shape operations))

-- ---- forms: an object may carry further members

abbrev pub Carries : Members → List (List ℕ × Document) → Type 0
Carries ms [] = ⊤
Carries ms (pair ∷ pairs) = (find pair.0 ms ≡ Some pair.1) × Carries ms pairs

-- d is an object that carries what o needs
abbrev pub IsForm : Document → Operation → Type 0
IsForm d o = (ms : Members) × (d ≡ object ms) × Carries ms (needed_members o)

-- each element is a form of the operation at its place
abbrev pub EachForm : Items → List Operation → Type 0
EachForm no_items [] = ⊤
EachForm (item d ds) (o ∷ operations) = IsForm d o × EachForm ds operations
EachForm ds operations = ⊥

abbrev pub AreForms : Document → List Operation → Type 0
AreForms d operations = (ds : Items) × (d ≡ list ds) × EachForm ds operations

-- ---- an element that is a form of no operation

-- what an operation needs in addition to its name and its path
pub data Need : Type 0 where
  path_alone : Need
  a_value : Need
  an_origin : Need

-- the operations of each need, by their names
abbrev pub NamesOp : Need → List ℕ → Type 0
NamesOp path_alone name = name ≡ codes "remove"
NamesOp a_value name = (name ≡ codes "add") ⊎ ((name ≡ codes "replace") ⊎ (name ≡ codes "test"))
NamesOp an_origin name = (name ≡ codes "move") ⊎ (name ≡ codes "copy")

abbrev pub text_of : Document → Option (List ℕ)
text_of (string s) = Some s
text_of d = None

-- the text at a name
abbrev pub text_at : List ℕ → Document → Option (List ℕ)
text_at name d = option_and_then text_of (at_name name d)

-- `op` names an operation of this need
abbrev pub HasOp : Need → Document → Type 0
HasOp need d = (name : List ℕ) × (text_at (codes "op") d ≡ Some name) × NamesOp need name

-- a text that spells no pointer
abbrev pub IsNoPointer : List ℕ → Type 0
IsNoPointer text = (t : Tokens) → text ≢ spell t

-- the text at a name is one
abbrev pub HasNoPointer : List ℕ → Document → Type 0
HasNoPointer name d = (text : List ℕ) × (text_at name d ≡ Some text) × IsNoPointer text

-- what can be wrong with an element, in the order in which it is judged
abbrev pub form_causes : Document → Causes FormCause
form_causes d =
    (NotAnObject, (ms : Members) → d ≢ object ms)
    ∷ (NoOp, text_at (codes "op") d ≡ None)
    ∷ (UnknownOp, (need : Need) → ¬ HasOp need d)
    ∷ (NoPath, text_at (codes "path") d ≡ None)
    ∷ (NoFrom, HasOp an_origin d × (text_at (codes "from") d ≡ None))
    ∷ (BadPointer, HasNoPointer (codes "path") d ⊎ (HasOp an_origin d × HasNoPointer (codes "from") d))
    ∷ (NoValue, HasOp a_value d × (at_name (codes "value") d ≡ None))
    ∷ []

-- the element is faulty by the first of these that holds
abbrev pub IsFaulty : FormCause → Document → Type 0
IsFaulty cause d = IsFirst cause (form_causes d)

-- the element of that number in the array d is faulty by the cause, and those in front of it are forms
pub record IsFaultyAt (number : ℕ) (cause : FormCause) (d : Document) : Type 0 where
  pub front : Items
  pub element : Document
  pub back : Items
  pub is : d ≡ list (append front (item element back))
  pub numbered : number ≡ count_of front
  pub operations : List Operation
  pub forms : EachForm front operations
  pub faulty : IsFaulty cause element

-- why a document is not a patch; out of memory says nothing of the document
abbrev pub IsFormFault : FormFault → Document → Type 0
IsFormFault NotAnArray d = (ds : Items) → d ≢ list ds
IsFormFault (Form number cause) d = IsFaultyAt number cause d
IsFormFault OutOfMemory d = ⊤

-- ---- depth

-- the depth of the value, 0 if there is none
abbrev pub value_depth : Operation → ℕ
value_depth (add t v) = depth v
value_depth (remove t) = 0
value_depth (replace t v) = depth v
value_depth (move f t) = 0
value_depth (copy f t) = 0
value_depth (test t v) = depth v

-- of the deepest value
abbrev pub deepest : List Operation → ℕ
deepest [] = 0
deepest (o ∷ operations) = max (value_depth o) (deepest operations)
