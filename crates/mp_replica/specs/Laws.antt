-- Laws over runs of calls. Each is the contract of a function of the module `laws` that runs nothing.
use Rattle.std.specs.Prelude.{◌≡◌, ◌↔◌, ℕ, List, None, Option, MatchOption, option_map, ⊤}
use Rattle.std.specs.List.{All, Contains}
use Rattle.mp_tree.specs.Document.{Document, IsDocument, IsReadable}
use Rattle.mp_tree.specs.View.{document}
use Rattle.mp_merge.specs.Lists.{HaveSameMembers, PairwiseCompatible}
use Rattle.mp_merge.specs.Outcome.{IsOutcome}
use Rattle.mp_replica.specs.Following.{Follows}
use Rattle.mp_replica.specs.Held.{HeldPatches, HeldReplica, IsJoinOf}
use Rattle.mp_replica.specs.Kept.{AreKeptPlaces, IsHeldBy}
use Rattle.mp_replica.specs.Messages.{LogFollows, HaveOnePatchFor, HaveSameMessagesFor, Sent}
use Rattle.mp_replica.specs.PatchLog.{AreAlike, AreAllPairsOf, Begins, HeldLog, IsDecideFault, Pair, Shows, start_of, stored_of}
use Rattle.mp_replica.specs.Taking.{HasTaken}
use Rattle.mp_replica.specs.declared.fault.DecideFault.{DecideFault}
use Rattle.mp_replica.specs.declared.message.Identity.{Identity}

-- ---- replicas

-- what is shown is the outcome of the start and of what was received, and what is joined is its join
abbrev pub ShowsOutcome : Type 0
ShowsOutcome = (start : Document) (received : List Document) (r : HeldReplica) → Follows start received r
    → r.pending ≡ None
    → IsOutcome start received (document r.shown) × IsJoinOf received (option_map document r.joined)

-- neither order nor repetition counts
abbrev pub FollowsSame : Type 0
FollowsSame = (start : Document) (received others : List Document) (r : HeldReplica)
    → HaveSameMembers received others → Follows start received r → Follows start others r

-- two replicas of one start that received the same patches show the same document, and have the same join
abbrev pub FollowersAgree : Type 0
FollowersAgree = (start : Document) (received others : List Document) (r s : HeldReplica)
    → HaveSameMembers received others → Follows start received r → Follows start others s → r.pending ≡ None
    → s.pending ≡ None
    → (document r.shown ≡ document s.shown) × (option_map document r.joined ≡ option_map document s.joined)

-- what is shown can be read if the start and the patches can
abbrev pub ShowsReadable : Type 0
ShowsReadable = (start : Document) (received : List Document) (r : HeldReplica) → Follows start received r
    → r.pending ≡ None → IsReadable start → All IsReadable received → IsReadable (document r.shown)

-- ---- patches without a start

-- if no two patches conflict, what is held is their join; else it is places at which two of them clash
abbrev pub HoldsJoin : Type 0
HoldsJoin = (taken : List Document) (r : HeldPatches) → HasTaken r taken
    → ((r.places ≡ None) ↔ PairwiseCompatible taken)
    × (r.places ≡ None → r.pending ≡ None → IsJoinOf taken (option_map document r.joined))

-- neither order nor repetition counts
abbrev pub TakenSame : Type 0
TakenSame = (taken others : List Document) (r : HeldPatches) → HaveSameMembers taken others → HasTaken r taken
    → HasTaken r others

-- two that took the same patches, in whatever order and groups, hold the same join, or both a conflict
abbrev pub TakersAgree : Type 0
TakersAgree = (taken others : List Document) (r s : HeldPatches) → HaveSameMembers taken others → HasTaken r taken
    → HasTaken s others
    → ((r.places ≡ None) ↔ (s.places ≡ None))
    × (r.places ≡ None → r.pending ≡ None → s.pending ≡ None
    → option_map document r.joined ≡ option_map document s.joined)

-- what is held of a conflict are places as a kept form has them
abbrev pub KeptAreTaken : Type 0
KeptAreTaken = (r : HeldPatches) (taken : List Document) → HasTaken r taken → MatchOption r.places ⊤ AreKeptPlaces

-- and what a kept form holds was taken: there are such patches
abbrev pub HeldWereTaken : Type 0
HeldWereTaken = (text : List ℕ) (r : HeldPatches) → IsHeldBy text r → (taken : List Document) × HasTaken r taken

-- ---- patch logs

-- two patch logs of one start that received the same messages of that start are alike, if an identity has one patch there;
-- those of other starts do not count
abbrev pub LogsAreAlike : Type 0
LogsAreAlike = (epoch : ℕ) (start : Document) (messages others : List Sent) (one other : HeldLog)
    → HaveOnePatchFor epoch messages → HaveSameMessagesFor epoch messages others → LogFollows epoch start messages one → LogFollows epoch start others other
    → AreAlike one other

-- two that are alike show the same document
abbrev pub AlikeShowTheSame : Type 0
AlikeShowTheSame = (one other : HeldLog) (d e : Document) → AreAlike one other → IsDocument d → IsDocument e
    → Shows (start_of one) (stored_of one) d → Shows (start_of other) (stored_of other) e → d ≡ e

-- and report the same conflicts, of all patches and of one identity
abbrev pub AlikeReportTheSame : Type 0
AlikeReportTheSame = (of : Option Identity) (one other : HeldLog) (pairs others : List Pair) → AreAlike one other
    → AreAllPairsOf of (stored_of one) pairs → AreAllPairsOf of (stored_of other) others → pairs ≡ others

-- and after one decision, in whatever order it names the patches, they are alike again
abbrev pub AlikeBeginTheSame : Type 0
AlikeBeginTheSame = (one other one_now other_now : HeldLog) (chosen others : List Identity) → AreAlike one other
    → ((i : Identity) → Contains chosen i ↔ Contains others i) → Begins one chosen one_now
    → Begins other others other_now → AreAlike one_now other_now

-- and what is a reason for one to begin no new start, whatever the limit on the places that are reported, is one for the other
abbrev pub AlikeRefuseTheSame : Type 0
AlikeRefuseTheSame = (limit : ℕ) (one other : HeldLog) (chosen : List Identity) (fault : DecideFault) → AreAlike one other
    → IsDecideFault limit fault one chosen → IsDecideFault limit fault other chosen
