-- The join of a collection of merge patches, said of what is at each path. Only membership in the list counts.
use Rattle.std.specs.Prelude.{◌≡◌, ◌≢◌, ◌↔◌, ℕ, List, [], ◌∷◌, Option, None, Some, Bool, true, false, ⊤}
use Rattle.std.specs.List.{Contains}
use Rattle.mp_tree.specs.Document.{Document, object, Members, find, IsDocument}
use Rattle.mp_tree.specs.Look.{Path, nothing, look}
use Rattle.mp_merge.specs.Clash.{AreConflictsOfPair, Compatible}
use Rattle.mp_merge.specs.declared.fault.JoinFault.{JoinFault}
use Rattle.mp_merge.specs.declared.fault.JoinFault.TheVariants.{Conflict, OutOfMemory}

-- j has the look of each patch that has something at a path, and nothing if no patch has anything
-- (at the empty path each document has something, so the empty collection has no join)
pub record IsJoin (patches : List Document) (j : Document) : Type 0 where
  pub said : (p : Document) → Contains patches p → (w : Path) → look p w ≢ nothing → look j w ≡ look p w
  pub silent : (w : Path) → ((p : Document) → Contains patches p → look p w ≡ nothing) → look j w ≡ nothing

-- the patches have a join
abbrev pub HasJoin : List Document → Type 0
HasJoin patches = (j : Document) × IsDocument j × IsJoin patches j

-- what a join has at a name: what one patch carries alone, or the join of the values of both
abbrev pub IsJoinAt : Option Document → Option Document → Option Document → Type 0
IsJoinAt None None j = j ≡ None
IsJoinAt (Some p) None j = j ≡ Some p
IsJoinAt None (Some q) j = j ≡ Some q
IsJoinAt (Some p) (Some q) j = (d : Document) × (j ≡ Some d) × IsJoin (p ∷ q ∷ []) d

-- an object that has this at each name
abbrev pub JoinsNames : Members → Members → Document → Type 0
JoinsNames ps qs (object js) = (n : List ℕ) → IsJoinAt (find n ps) (find n qs) (find n js)
JoinsNames ps qs j = ⊥

-- why two patches have no join; out of memory says nothing of them
abbrev pub IsJoinFault : JoinFault → Document → Document → Type 0
IsJoinFault (Conflict places) p q = AreConflictsOfPair p q places.items
IsJoinFault OutOfMemory p q = ⊤

-- ---- joining in place

-- whether a patch was joined to what was joined before; if the two clash, that is as it was
abbrev pub JoinsInto : Bool → Document → Document → Document → Type 0
JoinsInto true before p now = IsJoin (before ∷ p ∷ []) now
JoinsInto false before p now = ¬ Compatible p before × (now ≡ before)

-- what a join in place that ran out of memory left: the patch is compatible with it, and the join of the two is that of
-- what was there before and the patch
pub record JoinResumes (before p now : Document) : Type 0 where
  pub compatible : Compatible p now
  pub joins : (j : Document) → IsDocument j → IsJoin (now ∷ p ∷ []) j ↔ IsJoin (before ∷ p ∷ []) j

-- the patch has something at no path at which there is nothing yet, as one that was joined before
abbrev pub AddsNothing : Document → Document → Type 0
AddsNothing before p = (w : Path) → look p w ≢ nothing → look before w ≢ nothing

-- each try, one after another, left what the patch can be joined to again
abbrev pub AreJoinTries : Document → Document → List Document → Type 0
AreJoinTries before p [] = ⊤
AreJoinTries before p (now ∷ rest) = JoinResumes before p now × AreJoinTries now p rest
