-- Rewriting a merge patch against a document as a JSON Patch: tests of what the document has where it is changed, and
-- then one edit for each edit place.
use Rattle.std.specs.Prelude.{◌≡◌, ◌↔◌, List, [], ◌∷◌, ◌++◌, map, Option, None, Some, ⊤}
use Rattle.std.specs.List.{Contains, flat_map}
use Rattle.std.specs.List.Sorted.{IsStrictlySortedBy}
use Rattle.mp_tree.specs.Document.{Document}
use Rattle.mp_tree.specs.Look.{Path, Look, nothing, look}
use Rattle.mp_pointer.specs.Part.{part}
use Rattle.mp_patch.specs.Operation.{Operation, add, remove, replace, test}
use Rattle.mp_merge.specs.Application.{merge_patch, unless_null}
use Rattle.mp_merge.specs.Clash.{path_cmp}
use Rattle.mp_merge.specs.EditPlace.{IsEditPlace}

-- what a part of a patch leaves where nothing was: a null below the root leaves nothing (at an edit place the patch has
-- a part)
abbrev pub part_left : Path → Option Document → Option Document
part_left w None = None
part_left [] (Some q) = Some (merge_patch None q)
part_left (n ∷ w) (Some q) = unless_null q (merge_patch None q)

-- the operation that leaves it if the document has that look
abbrev pub edit_to : Path → Look → Option Document → Operation
edit_to w l None = remove w
edit_to w nothing (Some v) = add w v
edit_to w here (Some v) = replace w v

-- the edit of d and p at the path
abbrev pub edit : Document → Document → Path → Operation
edit d p w = edit_to w (look d w) (part_left w (part p w))

-- the test of what d has at the path; none if it has nothing
abbrev pub guard_of : Path → Option Document → List Operation
guard_of w None = []
guard_of w (Some v) = test w v ∷ []

abbrev pub guards : Document → List Path → List Operation
guards d places = flat_map (λ w. guard_of w (part d w)) places

-- the guarded edits of d and p: first the tests, then each edit, both in the order of paths
pub record IsRewriting (d p : Document) (operations : List Operation) : Type 0 where
  pub places : List Path
  pub rising : IsStrictlySortedBy path_cmp places
  pub all : (w : Path) → Contains places w ↔ IsEditPlace d p w
  pub guarded : operations ≡ guards d places ++ map (edit d p) places

abbrev pub HasNoRepeats : List Path → Type 0
HasNoRepeats [] = ⊤
HasNoRepeats (w ∷ places) = ¬ Contains places w × HasNoRepeats places

-- the tests in their order, and then each edit of d and p once and nothing else, in whatever order
pub record ListsEdits (d p : Document) (operations : List Operation) : Type 0 where
  pub places : List Path
  pub rising : IsStrictlySortedBy path_cmp places
  pub all : (w : Path) → Contains places w ↔ IsEditPlace d p w
  pub taken : List Path
  pub once : HasNoRepeats taken
  pub same : (w : Path) → Contains taken w ↔ IsEditPlace d p w
  pub guarded : operations ≡ guards d places ++ map (edit d p) taken
