-- Runs of calls that gather patches: those that were taken, as a relation between their list and what is held. Only
-- membership in the list counts.
use Rattle.std.specs.Prelude.{◌≡◌, ◌≢◌, List, [], ◌∷◌, ◌++◌, None, MatchOption, option_map}
use Rattle.std.specs.List.{All}
use Rattle.mp_tree.specs.Document.{Document, IsDocument}
use Rattle.mp_tree.specs.Look.{Path}
use Rattle.mp_tree.specs.View.{document}
use Rattle.mp_replica.specs.Held.{AreClashesAmong, AreFirstPlaces, HasJoined, HeldPatches, HeldPlaces}
use Rattle.mp_replica.specs.declared.patches.Added.{Added}
use Rattle.mp_replica.specs.declared.patches.Added.TheVariants.{Joined, Conflict, Pending, Refused}

-- two of these patches clash at each of some places, of which the first are held, and nothing else is
pub record HoldsConflict (r : HeldPatches) (taken : List Document) (held : HeldPlaces) : Type 0 where
  pub all : List Path
  pub clashes : AreClashesAmong taken all
  pub first : AreFirstPlaces all held
  pub no_join : r.joined ≡ None
  pub none_pending : r.pending ≡ None

-- these patches were taken, in any order and with any repeats: no two of them clash and their join is held, or two clash
-- and that is held
pub record HasTaken (r : HeldPatches) (taken : List Document) : Type 0 where
  pub are_documents : All IsDocument taken
  pub held : MatchOption r.places (HasJoined (option_map document r.joined) (option_map document r.pending) taken)
      (HoldsConflict r taken)

-- what `add` makes of what has taken these
abbrev pub TakesOne : {X : Type 0} → (HeldPatches → List X → Type 0) → Added → List X → X → HeldPatches → Type 0
TakesOne Has Joined taken p r = Has r (taken ++ p ∷ []) × (r.places ≡ None) × (r.pending ≡ None)
TakesOne Has Pending taken p r = Has r (taken ++ p ∷ []) × (r.places ≡ None) × (r.pending ≢ None)
TakesOne Has Conflict taken p r = Has r (taken ++ p ∷ []) × (r.places ≢ None)
TakesOne Has Refused taken p r = Has r taken × (r.places ≡ None)

-- what `combine` makes of two that have taken these: the other has none then, unless it is refused
abbrev pub TakesAll : {X : Type 0} → (HeldPatches → List X → Type 0) → Added → List X → List X → HeldPatches → HeldPatches → Type 0
TakesAll Has Joined taken others r o = Has r (taken ++ others) × Has o [] × (r.places ≡ None) × (r.pending ≡ None)
TakesAll Has Pending taken others r o = Has r (taken ++ others) × Has o [] × (r.places ≡ None) × (r.pending ≢ None)
TakesAll Has Conflict taken others r o = Has r (taken ++ others) × Has o [] × (r.places ≢ None)
TakesAll Has Refused taken others r o = Has r taken × Has o others × (r.places ≡ None) × (o.places ≡ None)
