-- What is within a limit in bytes: the conflicts that are reported, of two patches and of a list, and a rewriting.
use Rattle.std.specs.Prelude.{◌≡◌, ◌≢◌, ◌≤◌, ◌<◌, ◌+◌, ◌-◌, ◌^◌, ◌↔◌, ℕ, min, List, [], ◌∷◌, ◌++◌, length, map, ⊤}
use Rattle.std.specs.List.{Contains, sum_by}
use Rattle.std.specs.List.Sorted.{IsStrictlySortedBy}
use Rattle.mp_tree.specs.Document.{Document}
use Rattle.mp_tree.specs.Look.{Path}
use Rattle.mp_pointer.specs.Weight.{place_weight}
use Rattle.mp_patch.specs.Operation.{Operation}
use Rattle.mp_patch.specs.Weight.{operations_weight}
use Rattle.mp_patch.specs.Work.{no_limit}
use Rattle.mp_merge.specs.Clash.{AreAllClashes, path_cmp}
use Rattle.mp_merge.specs.EditPlace.{IsEditPlace}
use Rattle.mp_merge.specs.Lists.{IsReportedPair}
use Rattle.mp_merge.specs.Rewriting.{guards, edit}
use Rattle.mp_merge.specs.declared.comparing.Conflicts.{Conflicts}
use Rattle.mp_merge.specs.declared.fault.ListFault.{ListFault}
use Rattle.mp_merge.specs.declared.fault.ListFault.TheVariants.{NoPatches, ConflictOf}
use Rattle.mp_merge.specs.declared.fault.RewriteFault.{RewriteFault}
use Rattle.mp_merge.specs.declared.fault.RewriteFault.TheVariants.{TooLarge}

-- ---- conflicts

-- what the places weigh together
abbrev pub places_weight : List Path → ℕ
places_weight places = sum_by place_weight places

-- the places are those of `all` that come first, as many as weigh at most the limit together, and all if there is no limit;
-- `total` is how many there are in all, as far as 64 bits count
pub record AreFirstOf (limit : ℕ) (all places : List Path) (total : ℕ) : Type 0 where
  pub rest : List Path
  pub whole : all ≡ places ++ rest
  pub unlimited : limit ≡ no_limit → rest ≡ []
  pub within : limit ≢ no_limit → places_weight places ≤ limit
  -- with the next one they weigh more
  pub longest : (w : Path) (more : List Path) → rest ≡ w ∷ more → limit < places_weight places + place_weight w
  pub counted : total ≡ min (length all) (2 ^ 64 - 1)

-- of all conflicts of two patches
pub record AreFirstConflicts (limit : ℕ) (p q : Document) (places : List Path) (total : ℕ) : Type 0 where
  pub all : List Path
  pub clashes : AreAllClashes p q all
  pub first : AreFirstOf limit all places total

-- ---- lists of patches

-- the pair that is reported of the list, with those of its conflicts
pub record IsReportedPairWithin (limit : ℕ) (patches : List Document) (first second : ℕ) (places : List Path) (total : ℕ) : Type 0 where
  pub all : List Path
  pub pair : IsReportedPair patches first second all
  pub first_of : AreFirstOf limit all places total

-- why a list has no join; out of memory says nothing of it
abbrev pub IsJoinAllWithinFault : ℕ → ListFault Conflicts → List Document → Type 0
IsJoinAllWithinFault limit NoPatches patches = patches ≡ []
IsJoinAllWithinFault limit (ConflictOf first second conflicts) patches = IsReportedPairWithin limit patches first second conflicts.places.items conflicts.total
IsJoinAllWithinFault limit ListFault.OutOfMemory patches = ⊤

-- why a list can't be replayed: the empty list can
abbrev pub IsReplayWithinFault : ℕ → ListFault Conflicts → List Document → Type 0
IsReplayWithinFault limit NoPatches patches = ⊥
IsReplayWithinFault limit (ConflictOf first second conflicts) patches = IsReportedPairWithin limit patches first second conflicts.places.items conflicts.total
IsReplayWithinFault limit ListFault.OutOfMemory patches = ⊤

-- ---- rewritings

-- the tests and the edits of these places
abbrev pub guarded_edits : Document → Document → List Path → List Operation
guarded_edits d p places = guards d places ++ map (edit d p) places

-- not all edit places have tests and edits that weigh at most the limit together; `fitting` is how many tests and edits
-- those have that come first and do, as many places as possible
pub record IsTooLargeRewriting (limit fitting : ℕ) (d p : Document) : Type 0 where
  pub places : List Path
  pub next : Path
  pub rest : List Path
  pub rising : IsStrictlySortedBy path_cmp (places ++ next ∷ rest)
  pub all : (w : Path) → Contains (places ++ next ∷ rest) w ↔ IsEditPlace d p w
  pub within : operations_weight (guarded_edits d p places) ≤ limit
  pub over : limit < operations_weight (guarded_edits d p (places ++ next ∷ []))
  pub counted : fitting ≡ length (guarded_edits d p places)

-- why a patch has no rewriting within the limit: there is one, or memory ran out, which says nothing of the patch
abbrev pub IsRewriteFault : ℕ → RewriteFault → Document → Document → Type 0
IsRewriteFault limit (TooLarge fitting) d p = (limit ≢ no_limit) × IsTooLargeRewriting limit fitting d p
IsRewriteFault limit RewriteFault.OutOfMemory d p = ⊤
