-- What the walk over a patch and a document adds to its tests and edits. Only private clauses cite it.
use Rattle.std.specs.Prelude.{◌≡◌, ◌≢◌, ◌⊎◌, ◌+◌, ℕ, List, [], ◌∷◌, ◌++◌, Option, Some}
use Rattle.mp_tree.specs.Document.{Document, object, Members, no_members, member, find}
use Rattle.mp_tree.specs.Look.{Path, an_object, look, look_of}
use Rattle.mp_patch.specs.Operation.{Operation}
use Rattle.mp_patch.specs.View.{operations_of}
use Rattle.mp_patch.specs.Weight.{operation_weight, operations_weight}
use Rattle.mp_merge.specs.Rewriting.{guard_of, part_left, edit_to}
use Rattle.mp_merge.specs.Private.Budgets.{add_each, admit}
use Rattle.mp_merge.specs.Private.Growth.{GrewBy}
use Rattle.mp_merge.specs.declared.budget.Budget.{Budget}
use Rattle.mp_merge.specs.declared.rewriting.Edits.{Edits}

-- the tests that guard a place, at most one, and its edit
abbrev pub GuardedEdit : Type 0
GuardedEdit = List Operation × Operation

-- the tests and the edits of the places that a walk has passed
abbrev pub Lists : Type 0
Lists = List Operation × List Operation

abbrev pub lists_of : Edits → Lists
lists_of found = (operations_of found.guards, operations_of found.edits.items)

-- with those of one more place at their ends
abbrev pub with_edit : Lists → GuardedEdit → Lists
with_edit lists g = (lists.0 ++ g.0, lists.1 ++ g.1 ∷ [])

abbrev pub guarded_weight : GuardedEdit → ℕ
guarded_weight g = operations_weight g.0 + operation_weight g.1

-- the tests and the edits that the budget took, and what is left of it
abbrev pub Admitted : Type 0
Admitted = Lists × Budget

abbrev pub admitted_of : Edits → Admitted
admitted_of found = (lists_of found, found.budget)

abbrev pub admit_edit : Admitted → GuardedEdit → Admitted
admit_edit admitted g = admit with_edit guarded_weight admitted g

-- the walk has passed guarded edits of which that holds
abbrev pub Gathered : Edits → Edits → (List GuardedEdit → Type 0) → Type 0
Gathered old new Holds = GrewBy (add_each admit_edit) (admitted_of old) (admitted_of new) Holds

-- all that it has passed, if it began with that budget
abbrev pub GatheredFrom : Budget → Edits → (List GuardedEdit → Type 0) → Type 0
GatheredFrom budget found Holds = GrewBy (add_each admit_edit) (([], []), budget) (admitted_of found) Holds

-- at the path s: nothing if what the patch leaves is there, else the edit that leaves it, with its guard
abbrev pub IsOneEdit : Path → Document → Option Document → List GuardedEdit → Type 0
IsOneEdit s p t found =
    ((t ≡ part_left s (Some p)) × (found ≡ []))
    ⊎ ((t ≢ part_left s (Some p)) × (found ≡ (guard_of s t, edit_to s (look_of t []) (part_left s (Some p))) ∷ []))

-- at most one of the two is an object
abbrev pub NotBothMaps : Document → Option Document → Type 0
NotBothMaps p t = look p [] ≡ an_object → look_of t [] ≢ an_object

-- the edits at s and below, if the patch has p and the document t, which may be absent
abbrev mutual
  pub AreEdits : Path → Document → Option Document → List GuardedEdit → Type 0
  AreEdits s (object ps) (Some (object ds)) found = AreMemberEdits s ps ds found
  AreEdits s p t found = IsOneEdit s p t found

  -- name by name, if both have objects
  pub AreMemberEdits : Path → Members → Members → List GuardedEdit → Type 0
  AreMemberEdits s no_members ds found = found ≡ []
  AreMemberEdits s (member n p ps) ds found =
      (first : List GuardedEdit) × (rest : List GuardedEdit) × (found ≡ first ++ rest)
      × AreEdits (s ++ n ∷ []) p (find n ds) first × AreMemberEdits s ps ds rest
