-- Lists of merge patches, numbered from 0: how deep they are, and their conflicts.
use Rattle.std.specs.Prelude.{◌≡◌, ◌<◌, ◌≤◌, ℕ, List, [], Some, slice_get, ⊤, ◌↔◌, Vec}
use Rattle.std.specs.declared.alloc.Global.{Global}
use Rattle.std.specs.List.{All, Contains}
use Rattle.mp_tree.specs.Document.{Document, depth}
use Rattle.mp_tree.specs.Look.{Path}
use Rattle.mp_merge.specs.Clash.{Compatible, AreConflictsOfPair}
use Rattle.mp_pointer.specs.declared.pointer.Pointer.{Pointer}
use Rattle.mp_merge.specs.declared.fault.ListFault.{ListFault}
use Rattle.mp_merge.specs.declared.fault.ListFault.TheVariants.{NoPatches, ConflictOf, OutOfMemory}

-- no patch of the list is deeper than n
abbrev pub AreNoDeeper : ℕ → List Document → Type 0
AreNoDeeper n patches = All (λ p. depth p ≤ n) patches

-- each two patches of the list are compatible
abbrev pub PairwiseCompatible : List Document → Type 0
PairwiseCompatible patches = (p q : Document) → Contains patches p → Contains patches q → Compatible p q

-- the patches whose numbers are below k are compatible with q
abbrev pub CompatibleBelow : List Document → ℕ → Document → Type 0
CompatibleBelow patches k q = (i : ℕ) (p : Document) → i < k → slice_get patches i ≡ Some p → Compatible p q

-- `first` is the least number of a patch before number `second` that clashes with it, and `places` are all their
-- conflicts
pub record IsClashBelow (patches : List Document) (first second : ℕ) (places : List Path) : Type 0 where
  pub one : Document
  pub other : Document
  pub at_first : slice_get patches first ≡ Some one
  pub at_second : slice_get patches second ≡ Some other
  pub in_order : first < second
  pub conflicts : AreConflictsOfPair one other places
  pub least_first : CompatibleBelow patches first other

-- `second` is the least number of a patch that clashes with an earlier one, `first` the least number below it that
-- clashes with it, and `places` are all conflicts of the two: the pair that is reported of the list
pub record IsReportedPair (patches : List Document) (first second : ℕ) (places : List Path) : Type 0 where
  pub clash : IsClashBelow patches first second places
  pub least_second : (k : ℕ) (q : Document) → k < second → slice_get patches k ≡ Some q → CompatibleBelow patches k q

-- why a list has no join; out of memory says nothing of it
abbrev pub IsJoinAllFault : ListFault (Vec Pointer Global) → List Document → Type 0
IsJoinAllFault NoPatches patches = patches ≡ []
IsJoinAllFault (ConflictOf first second places) patches = IsReportedPair patches first second places.items
IsJoinAllFault OutOfMemory patches = ⊤

-- why a list can't be replayed: the empty list can
abbrev pub IsReplayFault : ListFault (Vec Pointer Global) → List Document → Type 0
IsReplayFault NoPatches patches = ⊥
IsReplayFault (ConflictOf first second places) patches = IsReportedPair patches first second places.items
IsReplayFault OutOfMemory patches = ⊤

-- the lists have the same members, in any order and with any repeats
abbrev pub HaveSameMembers : List Document → List Document → Type 0
HaveSameMembers ps qs = (p : Document) → Contains ps p ↔ Contains qs p
