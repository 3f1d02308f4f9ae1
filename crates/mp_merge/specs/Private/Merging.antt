-- What merging in place does to one name of an object. Only private clauses cite it.
use Rattle.std.specs.Prelude.{◌≡◌, ◌⊎◌, ℕ, List, Option, Some, false}
use Rattle.mp_tree.specs.Document.{Document, null, Members, find, is_name}
use Rattle.mp_merge.specs.Application.{merge_patch}
use Rattle.mp_merge.specs.Resumption.{NeedsNoMemory}

-- every other name is as it was, and applying the patch's value at n to what is there gives what it gave before
pub record ResumesAt (n : List ℕ) (p : Document) (before now : Members) : Type 0 where
  pub others : (m : List ℕ) → is_name m n ≡ false → find m now ≡ find m before
  pub here : merge_patch (find n now) p ≡ merge_patch (find n before) p

-- the value p of the patch at a name takes no memory if the target has t there
abbrev pub NeedsNoneAt : Document → Option Document → Type 0
NeedsNoneAt p t = (p ≡ null) ⊎ ((d : Document) × (t ≡ Some d) × NeedsNoMemory d p)

-- no value of the patch does
abbrev pub NeedsNoneIn : Members → Members → Type 0
NeedsNoneIn ps ts = (n : List ℕ) (p : Document) → find n ps ≡ Some p → NeedsNoneAt p (find n ts)
