-- What is known of the stored patches that conflict. Only private clauses cite it.
use Rattle.std.specs.Prelude.{◌≡◌, ◌↔◌, ◌⊎◌, List, Option, None, Some, option_map, ⊤}
use Rattle.std.specs.List.{Contains}
use Rattle.std.specs.List.Sorted.{IsStrictlySortedBy}
use Rattle.std.specs.BTreeMap.{is_at}
use Rattle.std.specs.Map.{keys_of, lookup}
use Rattle.mp_tree.specs.Document.{Document}
use Rattle.mp_tree.specs.View.{document}
use Rattle.mp_tree.specs.declared.doc.Doc.{Doc}
use Rattle.mp_merge.specs.Application.{merge_patch}
use Rattle.mp_merge.specs.Clash.{Compatible}
use Rattle.mp_replica.specs.Held.{HasJoined}
use Rattle.mp_replica.specs.PatchLog.{AreUnclashed, ClashesWithNone, Shows, Stored, identity_cmp, stored_in}
use Rattle.mp_replica.specs.Private.Pairs.{KeptPairs, KnowsPairs}
use Rattle.mp_replica.specs.Private.Steps.{HeldJoin}
use Rattle.mp_replica.specs.declared.message.Identity.{Identity}
use Rattle.mp_replica.specs.declared.stored_join.StoredJoin.{StoredJoin}
use Rattle.mp_replica.specs.declared.stored_patches.Standing.{Standing}
use Rattle.mp_replica.specs.declared.stored_patches.Standing.TheVariants.{Fits, Disputed, Disputes}

-- the patch under the identity clashes with one that is stored
abbrev pub Conflicts : Stored → Identity → Type 0
Conflicts stored i = (p : Document) × (stored i ≡ Some p) × (¬ ClashesWithNone stored p)

-- the patch under this identity, if it has one
abbrev pub pending_in : List (Identity × Doc) → Option Identity → Option Doc
pending_in patches None = None
pending_in patches (Some i) = lookup (is_at (identity_cmp i)) patches

-- the join of stored patches, and the one of them that is not joined whole
abbrev pub join_in : List (Identity × Doc) → StoredJoin → HeldJoin
join_in patches join = record { joined = join.joined; pending = pending_in patches join.unjoined }

-- the join is of these patches
abbrev pub IsJoined : HeldJoin → List Document → Type 0
IsJoined join patches = HasJoined (option_map document join.joined) (option_map document join.pending) patches

-- these identities are those whose patches conflict, these are their pairs, and the join is of all others
pub record KnowsConflicts (patches : List (Identity × Doc)) (known : List Identity) (pairs : KeptPairs) (join : HeldJoin) : Type 0 where
  pub ascending : IsStrictlySortedBy identity_cmp (keys_of patches)
  pub conflicting : (i : Identity) → Contains known i ↔ Conflicts (stored_in patches) i
  pub in_pairs : KnowsPairs (stored_in patches) pairs
  pub others : List Document
  pub unclashed : AreUnclashed (stored_in patches) others
  pub joined : IsJoined join others

-- the patch is compatible with those under the identities
abbrev pub FitsAll : Stored → List Identity → Document → Type 0
FitsAll stored identities p = (i : Identity) (q : Document) → Contains identities i → stored i ≡ Some q → Compatible p q

-- a patch is stored under the identity, and it was known to conflict or clashes with p
pub record ConflictsNow (stored : Stored) (p : Document) (known : List Identity) (i : Identity) : Type 0 where
  pub other : Document
  pub at : stored i ≡ Some other
  pub why : Contains known i ⊎ (¬ Compatible p other)

-- the new identity, and those that conflict with its patch or were known to conflict
abbrev pub AreConflictingWith : Stored → Identity → Document → List Identity → List Identity → Type 0
AreConflictingWith stored new p known found =
    (i : Identity) → Contains found i ↔ (ConflictsNow stored p known i ⊎ (i ≡ new))

-- these are the patches under other identities
abbrev pub AreOthers : Stored → List Identity → List Document → Type 0
AreOthers stored conflicting patches =
    (p : Document) → Contains patches p ↔ ((i : Identity) × (stored i ≡ Some p) × (¬ Contains conflicting i))

abbrev pub JoinsOthers : Stored → List Identity → HeldJoin → Type 0
JoinsOthers stored conflicting join =
    (patches : List Document) × AreOthers stored conflicting patches × IsJoined join patches

-- no two of the chosen patches clash
abbrev pub AreApart : Stored → List Identity → Type 0
AreApart stored chosen =
    (i j : Identity) (p q : Document) → Contains chosen i → Contains chosen j → stored i ≡ Some p → stored j ≡ Some q
    → Compatible p q

-- ---- what is shown once one more patch p is stored

abbrev pub StillShows : Standing → Document → Document → Document → Stored → Type 0
StillShows Fits start shown p now = Shows start now (merge_patch (Some shown) p)
StillShows Disputed start shown p now = Shows start now shown
StillShows Disputes start shown p now = ⊤

-- that is kept, changed as the patch wants, or not kept
abbrev pub IsShownAfter : Standing → Document → Document → Document → Type 0
IsShownAfter Fits before p now = now ≡ merge_patch (Some before) p
IsShownAfter Disputed before p now = now ≡ before
IsShownAfter Disputes before p now = ⊥
