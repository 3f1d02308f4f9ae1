-- What stays in memory, and what it says of the patches that were received.
use Rattle.std.specs.Prelude.{◌≡◌, ◌≢◌, ◌↔◌, ◌⊎◌, ◌+◌, ◌<◌, ◌≤◌, ℕ, Bool, List, [], ◌∷◌, ◌++◌, Option, None, Some, IsTrue}
use Rattle.std.specs.List.{All, Contains}
use Rattle.std.specs.List.Sorted.{IsStrictlySortedBy}
use Rattle.mp_tree.specs.Document.{Document, IsDocument}
use Rattle.mp_tree.specs.Look.{Path}
use Rattle.mp_tree.specs.declared.doc.Doc.{Doc}
use Rattle.mp_merge.specs.Clash.{Clash, path_cmp}
use Rattle.mp_merge.specs.Join.{IsJoin}
use Rattle.mp_merge.specs.Laws.{ClashesWithAMember}
use Rattle.mp_merge.specs.Lists.{PairwiseCompatible}
use Rattle.mp_merge.specs.Within.{AreFirstOf, places_weight}
use Rattle.mp_pointer.specs.Spelling.{IsProperPrefix}
use Rattle.mp_pointer.specs.Weight.{place_weight}
use Rattle.mp_replica.specs.declared.first_places.FirstPlaces.{FirstPlaces}

-- what a replica holds: what it shows, the join of what it received, and a patch that is received and not shown yet
pub record HeldReplica : Type 0 where
  pub shown : Doc
  pub joined : Option Doc
  pub pending : Option Doc

-- the places of a conflict that come first, and whether there are more
pub record HeldPlaces : Type 0 where
  pub places : List Path
  pub more : Bool

abbrev pub held_places : FirstPlaces → HeldPlaces
held_places found = record { places = found.places.items; more = found.more }

-- what is held of patches without a start: their join, and a patch that is taken and not joined yet; or places of a conflict
pub record HeldPatches : Type 0 where
  pub joined : Option Doc
  pub pending : Option Doc
  pub places : Option HeldPlaces

-- ---- what was received

-- j is the join of what is joined and of what is pending
abbrev pub Joins : Option Document → Option Document → Document → Type 0
Joins joined None j = joined ≡ Some j
Joins None (Some p) j = IsJoin (p ∷ []) j
Joins (Some before) (Some p) j = IsJoin (before ∷ p ∷ []) j

-- these patches were received, in any order and with any repeats: no two of them clash, and the join that is held is
-- theirs (of no patch there is none)
pub record HasJoined (joined pending : Option Document) (received : List Document) : Type 0 where
  pub are_documents : All IsDocument received
  pub compatible : PairwiseCompatible received
  pub joins : (j : Document) → IsDocument j → Joins joined pending j ↔ IsJoin received j

-- the join of the patches; none of no patch
abbrev pub IsJoinOf : List Document → Option Document → Type 0
IsJoinOf received None = received ≡ []
IsJoinOf received (Some j) = IsJoin received j

-- ---- conflicts

-- each place, once and in order, at which the patch clashes with one of those that were received
pub record AreClashesWith (received : List Document) (patch : Document) (places : List Path) : Type 0 where
  pub rising : IsStrictlySortedBy path_cmp places
  pub all : (w : Path) → Contains places w ↔ ClashesWithAMember received patch w

-- of these places those that come first, as many as weigh at most the limit together (all if there is no limit), and how many
-- there are in all
pub record AreFirstClashesWith (limit : ℕ) (received : List Document) (patch : Document) (places : List Path) (total : ℕ) : Type 0 where
  pub all : List Path
  pub clashes : AreClashesWith received patch all
  pub first : AreFirstOf limit all places total

-- each place, once and in order, at which one of these patches clashes with one of the others
pub record AreClashesBetween (taken others : List Document) (places : List Path) : Type 0 where
  pub rising : IsStrictlySortedBy path_cmp places
  pub all : (w : Path) → Contains places w ↔ ((p : Document) × Contains taken p × ClashesWithAMember others p w)

-- none of the places is within another
abbrev pub NoneIsPrefix : List Path → Type 0
NoneIsPrefix places = (w u : Path) → Contains places w → Contains places u → ¬ IsProperPrefix w u

-- some places, each once and in order, none within another, and two of the patches clash at each
pub record AreClashesAmong (received : List Document) (places : List Path) : Type 0 where
  pub some : places ≢ []
  pub rising : IsStrictlySortedBy path_cmp places
  pub apart : NoneIsPrefix places
  pub each : (w : Path) → Contains places w
      → (p : Document) × (q : Document) × Contains received p × Contains received q × Clash p q w

-- what the places of a conflict that are held weigh at most, in bytes
abbrev pub places_bound : ℕ
places_bound = 65536

-- of all places those that come first, as many as weigh at most the bound together; `more` says whether any is left out
pub record AreFirstPlaces (all : List Path) (held : HeldPlaces) : Type 0 where
  pub rest : List Path
  pub whole : all ≡ held.places ++ rest
  pub more : IsTrue held.more ↔ (rest ≢ [])
  pub within : places_weight held.places ≤ places_bound
  -- with the next one they weigh more; or memory ran out, and none is held
  pub longest : (w : Path) (others : List Path) → rest ≡ w ∷ others
      → (held.places ≡ []) ⊎ (places_bound < places_weight held.places + place_weight w)

-- the first of all places at which the patch clashes with one that was received
pub record HoldsClashesWith (received : List Document) (patch : Document) (held : HeldPlaces) : Type 0 where
  pub all : List Path
  pub clashes : AreClashesWith received patch all
  pub first : AreFirstPlaces all held

-- the first of all places at which one of these patches clashes with one of the others
pub record HoldsClashesBetween (taken others : List Document) (held : HeldPlaces) : Type 0 where
  pub all : List Path
  pub clashes : AreClashesBetween taken others all
  pub first : AreFirstPlaces all held
