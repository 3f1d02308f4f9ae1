-- What a patch log stores, which of that conflicts, what it shows, and what it begins once it is decided.
use Rattle.std.specs.Prelude.{◌≡◌, ◌≢◌, ◌+◌, ◌^◌, ◌<◌, ◌≤◌, ◌↔◌, ◌⊎◌, ◌++◌, ◌∷◌, ℕ, Bool, List, [], Option, None, Some, IsTrue, map, take, slice_get, option_map, ⊤}
use Rattle.std.specs.List.{All, Contains, sum_by}
use Rattle.std.specs.List.Sorted.{IsStrictlySortedBy}
use Rattle.std.specs.Ordering.{nat_cmp, ordering_then}
use Rattle.std.specs.declared.cmp.Ordering.{Ordering}
use Rattle.std.specs.declared.cmp.Ordering.TheVariants.{Less}
use Rattle.std.specs.BTreeMap.{is_at}
use Rattle.std.specs.Map.{lookup}
use Rattle.mp_tree.specs.Document.{Document}
use Rattle.mp_tree.specs.Look.{Path}
use Rattle.mp_tree.specs.View.{document}
use Rattle.mp_tree.specs.declared.doc.Doc.{Doc}
use Rattle.mp_merge.specs.Clash.{Compatible, AreConflictsOfPair}
use Rattle.mp_merge.specs.Outcome.{IsOutcome}
use Rattle.mp_merge.specs.Within.{AreFirstConflicts, places_weight}
use Rattle.mp_pointer.specs.Weight.{place_weight}
use Rattle.mp_replica.specs.declared.fault.DecideFault.{DecideFault}
use Rattle.mp_replica.specs.declared.fault.DecideFault.TheVariants.{NotReceived, Conflict, LastEpoch, OutOfMemory}
use Rattle.mp_replica.specs.declared.message.Identity.{Identity}
use Rattle.mp_replica.specs.declared.pairs.ConflictingPair.{ConflictingPair}

-- ---- what is stored

-- by the sender, and then by the number
abbrev pub identity_cmp : Identity → Identity → Ordering
identity_cmp i j = ordering_then (nat_cmp i.sender j.sender) (nat_cmp i.number j.number)

-- the number of the start, the start, and each patch that arrived for it, in the order of identities
pub record HeldLog : Type 0 where
  pub epoch : ℕ
  pub start : Doc
  pub stored : List (Identity × Doc)

-- under each identity the patch that is stored there, if one is
abbrev pub Stored : Type 0
Stored = Identity → Option Document

abbrev pub stored_in : List (Identity × Doc) → Stored
stored_in patches i = option_map document (lookup (is_at (identity_cmp i)) patches)

abbrev pub stored_of : HeldLog → Stored
stored_of log = stored_in log.stored

abbrev pub start_of : HeldLog → Document
start_of log = document log.start

-- the patch is stored under this identity, and under each other what was there before
pub record StoresAlso (before : Stored) (i : Identity) (p : Document) (now : Stored) : Type 0 where
  pub here : now i ≡ Some p
  pub others : (j : Identity) → j ≢ i → now j ≡ before j

-- a patch is stored under each of these identities
abbrev pub HaveArrived : Stored → List Identity → Type 0
HaveArrived stored chosen = (i : Identity) → Contains chosen i → stored i ≢ None

-- two patch logs with one start and the same patches, each under its identity, in whatever order they arrived
pub record AreAlike (one other : HeldLog) : Type 0 where
  pub epoch : one.epoch ≡ other.epoch
  pub start : start_of one ≡ start_of other
  pub stored : (i : Identity) → stored_of one i ≡ stored_of other i

-- ---- what conflicts

-- the patches that are stored under the two clash
pub record DoClash (stored : Stored) (i j : Identity) : Type 0 where
  pub one : Document
  pub other : Document
  pub at_first : stored i ≡ Some one
  pub at_second : stored j ≡ Some other
  pub clash : ¬ Compatible one other

-- a pair of identities, and places
pub record Pair : Type 0 where
  pub first : Identity
  pub second : Identity
  pub places : List Path

abbrev pub seen : ConflictingPair → Pair
seen found = record { first = found.first; second = found.second; places = found.places.items }

-- the patches that are stored under the two clash, the first identity is below the second, and these are all their
-- conflicts
pub record IsClashing (stored : Stored) (pair : Pair) : Type 0 where
  pub one : Document
  pub other : Document
  pub at_first : stored pair.first ≡ Some one
  pub at_second : stored pair.second ≡ Some other
  pub in_order : identity_cmp pair.first pair.second ≡ Less
  pub conflicts : AreConflictsOfPair one other pair.places

-- by the first, and then by the second
abbrev pub pair_cmp : Identity × Identity → Identity × Identity → Ordering
pair_cmp a b = ordering_then (identity_cmp a.0 b.0) (identity_cmp a.1 b.1)

abbrev pub identities_of : Pair → Identity × Identity
identities_of pair = (pair.first, pair.second)

-- what is asked for: each pair, or those with an identity
abbrev pub IsAmong : Option Identity → Identity → Identity → Type 0
IsAmong None i j = ⊤
IsAmong (Some k) i j = (i ≡ k) ⊎ (j ≡ k)

-- each two stored patches that clash and are asked for, once, in the order of pairs
pub record AreAllPairsOf (of : Option Identity) (stored : Stored) (pairs : List Pair) : Type 0 where
  pub rising : IsStrictlySortedBy pair_cmp (map identities_of pairs)
  pub each : All (IsClashing stored) pairs
  pub among : All (λ pair. IsAmong of pair.first pair.second) pairs
  pub all : (i j : Identity) → identity_cmp i j ≡ Less → IsAmong of i j → DoClash stored i j
      → Contains (map identities_of pairs) (i, j)

-- each two that clash
abbrev pub AreAllPairs : Stored → List Pair → Type 0
AreAllPairs = AreAllPairsOf None

-- ---- what conflicts, within a limit in bytes

-- what a pair weighs beside its places
abbrev pub pair_base : ℕ
pair_base = 64

abbrev pub pair_weight : Pair → ℕ
pair_weight pair = pair_base + places_weight pair.places

abbrev pub pairs_weight : List Pair → ℕ
pairs_weight pairs = sum_by pair_weight pairs

-- each two stored patches that clash, are asked for, and come before `next` in the order of pairs, once
pub record ArePairsBelow (of : Option Identity) (stored : Stored) (next : Pair) (pairs : List Pair) : Type 0 where
  pub rising : IsStrictlySortedBy pair_cmp (map identities_of pairs)
  pub each : All (IsClashing stored) pairs
  pub among : All (λ pair. IsAmong of pair.first pair.second) pairs
  pub below : (pair : Pair) → Contains pairs pair → pair_cmp (identities_of pair) (identities_of next) ≡ Less
  pub all : (i j : Identity) → identity_cmp i j ≡ Less → IsAmong of i j → DoClash stored i j
      → pair_cmp (i, j) (identities_of next) ≡ Less → Contains (map identities_of pairs) (i, j)

-- with the next pair they weigh more, without any of its places
pub record StopsBeforeAPair (limit : ℕ) (of : Option Identity) (stored : Stored) (pairs : List Pair) : Type 0 where
  pub next : Pair
  pub clashing : IsClashing stored next
  pub among : IsAmong of next.first next.second
  pub below : ArePairsBelow of stored next pairs
  pub over : limit < pairs_weight pairs + pair_base

-- the last pair has the first of its places, and with its next place they weigh more
pub record StopsBeforeAPlace (limit : ℕ) (of : Option Identity) (stored : Stored) (pairs : List Pair) : Type 0 where
  pub before : List Pair
  pub next : Pair
  pub clashing : IsClashing stored next
  pub among : IsAmong of next.first next.second
  pub below : ArePairsBelow of stored next before
  pub shown : List Path
  pub place : Path
  pub rest : List Path
  pub parts : next.places ≡ shown ++ place ∷ rest
  pub last : pairs ≡ before ++ record { first = next.first; second = next.second; places = shown } ∷ []
  pub over : limit < pairs_weight pairs + place_weight place

-- of the pairs that are asked for those that come first, each with those of its places that come first, as many as weigh at
-- most the limit together; `more` says whether a pair or a place is left out
pub record AreFirstPairsOf (limit : ℕ) (of : Option Identity) (stored : Stored) (pairs : List Pair) (more : Bool) : Type 0 where
  pub within : pairs_weight pairs ≤ limit
  pub all : ¬ IsTrue more → AreAllPairsOf of stored pairs
  pub stops : IsTrue more → StopsBeforeAPair limit of stored pairs ⊎ StopsBeforeAPlace limit of stored pairs

-- of all pairs
abbrev pub AreFirstPairs : ℕ → Stored → List Pair → Bool → Type 0
AreFirstPairs limit = AreFirstPairsOf limit None

-- ---- what is shown

-- the patch is compatible with each that is stored
abbrev pub ClashesWithNone : Stored → Document → Type 0
ClashesWithNone stored p = (i : Identity) (q : Document) → stored i ≡ Some q → Compatible p q

-- these are the stored patches that clash with none
abbrev pub AreUnclashed : Stored → List Document → Type 0
AreUnclashed stored patches =
    (p : Document) → Contains patches p ↔ (((i : Identity) × (stored i ≡ Some p)) × ClashesWithNone stored p)

-- the outcome of the start and of those alone
pub record Shows (start : Document) (stored : Stored) (shown : Document) : Type 0 where
  pub patches : List Document
  pub unclashed : AreUnclashed stored patches
  pub outcome : IsOutcome start patches shown

-- ---- what is decided

-- these are the patches with the chosen identities
abbrev pub AreChosen : Stored → List Identity → List Document → Type 0
AreChosen stored chosen patches =
    (p : Document) → Contains patches p ↔ ((i : Identity) × Contains chosen i × (stored i ≡ Some p))

-- all that was chosen has arrived, the new start is the outcome of the old one and of those, and nothing has arrived for it
pub record Begins (before : HeldLog) (chosen : List Identity) (now : HeldLog) : Type 0 where
  pub arrived : HaveArrived (stored_of before) chosen
  pub patches : List Document
  pub are_chosen : AreChosen (stored_of before) chosen patches
  pub start : IsOutcome (start_of before) patches (start_of now)
  pub epoch : now.epoch ≡ before.epoch + 1
  pub forgotten : (i : Identity) → stored_of now i ≡ None

-- no patch is stored under the identity, and it is the first of those that were chosen
pub record IsFirstMissing (stored : Stored) (chosen : List Identity) (i : Identity) : Type 0 where
  pub k : ℕ
  pub at : slice_get chosen k ≡ Some i
  pub missing : stored i ≡ None
  pub before : HaveArrived stored (take k chosen)

-- both were chosen and clash, the first is below the second, and no two that were chosen and clash come before them in the
-- order of pairs
pub record IsFirstPair (stored : Stored) (chosen : List Identity) (first second : Identity) : Type 0 where
  pub chosen_first : Contains chosen first
  pub chosen_second : Contains chosen second
  pub in_order : identity_cmp first second ≡ Less
  pub clash : DoClash stored first second
  pub least : (i j : Identity) → Contains chosen i → Contains chosen j → identity_cmp i j ≡ Less → DoClash stored i j
      → pair_cmp (i, j) (first, second) ≢ Less

-- of all conflicts of the patches that are stored under the two those that come first, as many as weigh at most the limit
-- together, and how many there are in all
abbrev pub AreFirstConflictsAt : ℕ → Stored → Identity → Identity → List Path → ℕ → Type 0
AreFirstConflictsAt limit stored first second places total =
    (one other : Document) → stored first ≡ Some one → stored second ≡ Some other
    → AreFirstConflicts limit one other places total

-- why no new start is begun: the first of these that holds; out of memory says nothing of it
abbrev pub IsDecideFault : ℕ → DecideFault → HeldLog → List Identity → Type 0
IsDecideFault limit LastEpoch log chosen = 2 ^ 64 ≤ log.epoch + 1
IsDecideFault limit (NotReceived i) log chosen = (log.epoch + 1 < 2 ^ 64) × IsFirstMissing (stored_of log) chosen i
IsDecideFault limit (Conflict first second conflicts) log chosen =
    (log.epoch + 1 < 2 ^ 64) × HaveArrived (stored_of log) chosen × IsFirstPair (stored_of log) chosen first second
    × AreFirstConflictsAt limit (stored_of log) first second conflicts.places.items conflicts.total
IsDecideFault limit OutOfMemory log chosen = ⊤
