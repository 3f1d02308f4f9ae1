-- The pairs of identities that are kept, and the pairs of patches that conflict, as far as they are looked for. Only private clauses cite it.
use Rattle.std.specs.Prelude.{◌≡◌, ◌≢◌, ◌<◌, ◌+◌, ◌⊎◌, ◌↔◌, ◌++◌, ◌∷◌, ℕ, Bool, true, false, List, [], Option, Some, IsTrue, map}
use Rattle.std.specs.BTreeSet.{BTreeSet, contains}
use Rattle.std.specs.List.{All, Contains}
use Rattle.std.specs.List.Sorted.{IsStrictlySortedBy}
use Rattle.std.specs.declared.cmp.Ordering.TheVariants.{Less}
use Rattle.mp_tree.specs.Document.{Document}
use Rattle.mp_tree.specs.Look.{Path}
use Rattle.mp_pointer.specs.Weight.{place_weight}
use Rattle.mp_merge.specs.Clash.{Compatible}
use Rattle.mp_merge.specs.Within.{places_weight}
use Rattle.mp_replica.specs.PatchLog.{DoClash, IsAmong, IsClashing, Pair, Stored, identities_of, identity_cmp, pair_base, pair_cmp, pairs_weight}
use Rattle.mp_replica.specs.declared.message.Identity.{Identity}

-- ---- the pairs that are kept

abbrev pub KeptPairs : Type 0
KeptPairs = BTreeSet (Identity × Identity)

-- in each the lower identity comes first
abbrev pub AreOrdered : KeptPairs → Type 0
AreOrdered set = (i j : Identity) → Contains set.keys (i, j) → identity_cmp i j ≡ Less

-- the two are a pair
abbrev pub HasBoth : KeptPairs → Identity → Identity → Type 0
HasBoth set i j =
    (identity_cmp i j ≡ Less → Contains set.keys (i, j)) × (identity_cmp j i ≡ Less → Contains set.keys (j, i))

-- no pair was taken away
abbrev pub Includes : KeptPairs → KeptPairs → Type 0
Includes before now = (k : Identity × Identity) → Contains before.keys k → Contains now.keys k

-- the identity is a pair with each of the others whose patch clashes with p
abbrev pub Notes : Identity → Stored → Document → List Identity → KeptPairs → Type 0
Notes i stored p others set =
    (j : Identity) (q : Document) → Contains others j → stored j ≡ Some q → ¬ Compatible p q → HasBoth set i j

-- each two whose patches clash are a pair; there may be others
pub record KnowsPairs (stored : Stored) (set : KeptPairs) : Type 0 where
  pub ordered : AreOrdered set
  pub found : (i j : Identity) → identity_cmp i j ≡ Less → DoClash stored i j → Contains set.keys (i, j)

-- ---- those whose patches clash

-- these are the patches that are stored under the two, and they clash
pub record AreClashing (stored : Stored) (i j : Identity) (p q : Document) : Type 0 where
  pub at_first : stored i ≡ Some p
  pub at_second : stored j ≡ Some q
  pub clash : ¬ Compatible p q

-- of the pairs that were passed those whose patches clash, and that are asked for
pub record AreOf (of : Option Identity) (stored : Stored) (passed : List (Identity × Identity)) (pairs : List Pair) : Type 0 where
  pub rising : IsStrictlySortedBy pair_cmp (map identities_of pairs)
  pub each : All (IsClashing stored) pairs
  pub among : All (λ pair. IsAmong of pair.first pair.second) pairs
  pub from : (k : Identity × Identity) → Contains (map identities_of pairs) k → Contains passed k
  pub all : (i j : Identity) → Contains passed (i, j) → IsAmong of i j → DoClash stored i j → Contains (map identities_of pairs) (i, j)

-- the patches of no pair clash, of those of which both were chosen
abbrev pub NoneAmong : Stored → List (Identity × Identity) → BTreeSet Identity → Type 0
NoneAmong stored pairs chosen =
    (i j : Identity) → Contains pairs (i, j) → IsTrue (contains identity_cmp chosen i)
    → IsTrue (contains identity_cmp chosen j) → ¬ DoClash stored i j

-- both of this pair were chosen and clash, and it is the first
pub record IsFirstAmong (stored : Stored) (pairs : List (Identity × Identity)) (chosen : BTreeSet Identity) (pair : Identity × Identity) : Type 0 where
  pub before : List (Identity × Identity)
  pub rest : List (Identity × Identity)
  pub parts : pairs ≡ before ++ pair ∷ rest
  pub chosen_first : IsTrue (contains identity_cmp chosen pair.0)
  pub chosen_second : IsTrue (contains identity_cmp chosen pair.1)
  pub clash : DoClash stored pair.0 pair.1
  pub none_before : NoneAmong stored before chosen

-- ---- within a limit

-- the list ends before this pair, or after some of its places, since with what comes next it weighs more than the limit
pub record EndsAt (limit : ℕ) (before pairs : List Pair) (next : Pair) : Type 0 where
  pub shown : List Path
  pub place : Path
  pub rest : List Path
  pub parts : next.places ≡ shown ++ place ∷ rest
  pub last : pairs ≡ before ++ record { first = next.first; second = next.second; places = shown } ∷ []
  pub over : limit < pairs_weight pairs + place_weight place

-- one of the pairs comes next, all before it are there, and the limit ends the list there
pub record EndsAmong (of : Option Identity) (stored : Stored) (limit : ℕ) (all : List (Identity × Identity)) (pairs : List Pair) : Type 0 where
  pub passed : List (Identity × Identity)
  pub rest : List (Identity × Identity)
  pub before : List Pair
  pub next : Pair
  pub parts : all ≡ passed ++ identities_of next ∷ rest
  pub clashing : IsClashing stored next
  pub among : IsAmong of next.first next.second
  pub are : AreOf of stored passed before
  pub ends : ((pairs ≡ before) × (limit < pairs_weight pairs + pair_base)) ⊎ EndsAt limit before pairs next

-- what is left of the limit, and of all pairs those that were passed, unless the limit has ended the list
pub record Lists (of : Option Identity) (stored : Stored) (limit : ℕ) (all passed : List (Identity × Identity)) (pairs : List Pair) (left : ℕ) (more : Bool) : Type 0 where
  pub spent : left + pairs_weight pairs ≡ limit
  pub going : more ≡ false → AreOf of stored passed pairs
  pub ended : more ≡ true → EndsAmong of stored limit all pairs

-- a pair that clashes is added with the first of its places, or the limit ends the list before it
pub record AddsPair (stored : Stored) (first second : Identity) (pairs now : List Pair) (left left' : ℕ) (more : Bool) : Type 0 where
  pub pair : Pair
  pub is : identities_of pair ≡ (first, second)
  pub clashing : IsClashing stored pair
  pub how : ((now ≡ pairs) × (left' ≡ left) × (left < pair_base) × (more ≡ true))
      ⊎ ((shown rest : List Path) × (pair.places ≡ shown ++ rest)
      × (now ≡ pairs ++ record { first = first; second = second; places = shown } ∷ [])
      × (left' + pair_base + places_weight shown ≡ left) × (IsTrue more ↔ (rest ≢ []))
      × ((w : Path) (others : List Path) → rest ≡ w ∷ others → left' < place_weight w))

-- the two clash and are listed as far as the limit allows, or they do not, and nothing changes
abbrev pub ListsPair : Stored → Identity → Identity → List Pair → List Pair → ℕ → ℕ → Bool → Type 0
ListsPair stored first second pairs now left left' more =
    AddsPair stored first second pairs now left left' more
    ⊎ ((¬ DoClash stored first second) × (now ≡ pairs) × (left' ≡ left) × (more ≡ false))
