-- Where a merge patch changes a document: the places at which a JSON Patch has to change it.
use Rattle.std.specs.Prelude.{◌≡◌, ◌≢◌, ◌⊎◌, ℕ, List, [], ◌∷◌, ◌++◌}
use Rattle.mp_tree.specs.Document.{Document, null}
use Rattle.mp_tree.specs.Look.{Path, nothing, an_object, plain, look}

-- what the patch p has at the path is not what d has there
pub data Changes (d p : Document) (w : Path) : Type 0 where
  -- a value that is not an object; a null is such a value at the root alone
  sets : (v : Document) → look p w ≡ plain v → (v ≢ null) ⊎ (w ≡ []) → look d w ≢ plain v → Changes d p w
  -- below the root a null removes what is there
  clears : look p w ≡ plain null → w ≢ [] → look d w ≢ nothing → Changes d p w
  -- an object, and d has none there
  enters : look p w ≡ an_object → look d w ≢ an_object → Changes d p w

pub record IsEditPlace (d p : Document) (w : Path) : Type 0 where
  -- both have an object at each proper prefix
  pub above : (u : Path) (n : List ℕ) (rest : Path) → w ≡ u ++ n ∷ rest
      → (look d u ≡ an_object) × (look p u ≡ an_object)
  pub here : Changes d p w
