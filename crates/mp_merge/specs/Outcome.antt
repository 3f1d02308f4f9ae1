-- What a collection of merge patches makes of a document, said of what is at each path. Only membership in the
-- list of patches counts: neither order nor repetition can be expressed.
use Rattle.std.specs.Prelude.{◌≡◌, ◌≢◌, ℕ, List, [], ◌∷◌, ◌++◌}
use Rattle.std.specs.List.{Contains}
use Rattle.mp_tree.specs.Document.{Document, IsDocument, null}
use Rattle.mp_tree.specs.Look.{Path, Look, nothing, an_object, plain, look}

-- what a value that is not an object leaves where a patch has it: itself, but a null below the root removes
abbrev pub left_by : Document → Path → Look
left_by v [] = plain v
left_by null (n ∷ w) = nothing
left_by v w = plain v

-- the patch has nothing at the path, and no value that is not an object on the way there
pub record LeavesAlone (p : Document) (w : Path) : Type 0 where
  pub here : look p w ≡ nothing
  pub above : (u : Path) (n : List ℕ) (rest : Path) (v : Document) → w ≡ u ++ n ∷ rest → look p u ≢ plain v

-- e is the outcome of a start d and a collection of patches
pub record IsOutcome (d : Document) (patches : List Document) (e : Document) : Type 0 where
  pub set : (p : Document) → Contains patches p → (w : Path) (v : Document) → look p w ≡ plain v
      → look e w ≡ left_by v w
  pub entered : (p : Document) → Contains patches p → (w : Path) → look p w ≡ an_object → look e w ≡ an_object
  pub cleared : (p : Document) → Contains patches p → (u : Path) (n : List ℕ) (rest : Path) (v : Document)
      → look p u ≡ plain v → look e (u ++ n ∷ rest) ≡ nothing
  pub kept : (w : Path) → ((p : Document) → Contains patches p → LeavesAlone p w) → look e w ≡ look d w

-- e is a document, and the outcome of d and the patches
abbrev pub HasOutcome : Document → List Document → Type 0
HasOutcome d patches = (e : Document) × IsDocument e × IsOutcome d patches e
