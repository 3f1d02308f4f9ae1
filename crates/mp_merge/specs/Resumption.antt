-- Merging in place: what it needs no memory for, and what tries that were refused leave.
use Rattle.std.specs.Prelude.{◌≡◌, List, [], ◌∷◌, Some, ⊤}
use Rattle.mp_tree.specs.Document.{Document, null}
use Rattle.mp_tree.specs.Look.{Path, an_object, plain, look}
use Rattle.mp_merge.specs.Application.{merge_patch}

-- the patch is an object of nulls and objects alone, and the target has an object wherever the patch has one: then
-- nothing is copied from the patch
pub record NeedsNoMemory (target patch : Document) : Type 0 where
  pub object_alone : look patch [] ≡ an_object
  pub nulls_alone : (w : Path) (v : Document) → look patch w ≡ plain v → v ≡ null
  pub objects_there : (w : Path) → look patch w ≡ an_object → look target w ≡ an_object

-- applying the patch to what is left now gives what applying it to the target before gives
abbrev pub Resumes : Document → Document → Document → Type 0
Resumes patch before now = merge_patch (Some now) patch ≡ merge_patch (Some before) patch

-- each try, one after another, left a document from which the patch can be applied again
abbrev pub AreTries : Document → Document → List Document → Type 0
AreTries patch before [] = ⊤
AreTries patch before (now ∷ rest) = Resumes patch before now × AreTries patch now rest

-- what the last try left
abbrev pub last_of : Document → List Document → Document
last_of before [] = before
last_of before (now ∷ rest) = last_of now rest
