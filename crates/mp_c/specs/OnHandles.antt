-- What each call on a handle answers, and what it makes of what the handle owns.
use Rattle.std.specs.Prelude.{◌≡◌, ◌≢◌, ◌≤◌, ◌↔◌, ℕ, Bool, true, false, List, [], Option, None, Some, MatchOption, Ok, Err, length, ⊤}
use Rattle.std.specs.Str.{IsUtf8, IsValidUpTo}
use Rattle.mp_tree.specs.Document.{Document}
use Rattle.mp_tree.specs.Look.{Path}
use Rattle.mp_tree.specs.Text.{document_in, text as compact}
use Rattle.mp_tree.specs.View.{document}
use Rattle.mp_tree.specs.declared.fault.ReadFault.{ReadFault}
use Rattle.mp_texts.specs.Answers.{IsJoinText, IsReplayText}
use Rattle.mp_texts.specs.PlacesTexts.{AreShown}
use Rattle.mp_texts.specs.Texts.{AreCompatible, AreRead}
use Rattle.mp_replica.specs.Faults.{IsNoPart, IsNotJoined, HasLongText, IsUnshown}
use Rattle.mp_tree.specs.declared.doc.Doc.{Doc}
use Rattle.mp_replica.specs.Held.{AreFirstClashesWith, HeldPatches, HeldReplica}
use Rattle.mp_replica.specs.Kept.{IsHeldBy, IsKept, IsKeptText, IsNoKept, IsNotKeptYet}
use Rattle.mp_replica.specs.Taking.{TakesAll, TakesOne}
use Rattle.mp_replica.specs.Texts.{FollowsTexts, FollowsTextsOn, HasTakenTexts, IsPartOf}
use Rattle.mp_replica.specs.declared.fault.LiveFault.{LiveFault}
use Rattle.mp_replica.specs.declared.fault.LiveFault.TheVariants.{Conflict, NoPatches, Pending, TooLarge, OutOfMemory}
use Rattle.mp_replica.specs.declared.patches.Added.{Added}
use Rattle.mp_replica.specs.declared.patches.Added.TheVariants as added
use Rattle.mp_replica.specs.declared.replica.Received.{Received}
use Rattle.mp_replica.specs.declared.replica.Received.TheVariants as received
use Rattle.mp_c.specs.Answered.{IsPlaceIn}

pub data HandleAnswer : Type 0 where
  handle_text : List ℕ → HandleAnswer
  -- patches conflict at so many places; those that the limit allows, or no text if there was no memory for it
  handle_conflict : ℕ → Option (List Path) → HandleAnswer
  -- the same of the first so many places, where there are more
  handle_first_places : ℕ → Option (List Path) → HandleAnswer
  -- the text of the pairs that come first, where there are more pairs or places
  handle_first_pairs : List ℕ → HandleAnswer
  -- the text is no document, and where it has the value for which it is none, if it has one
  handle_unread : ReadFault → Option Path → HandleAnswer
  handle_fault : LiveFault → HandleAnswer
  -- the offset of the first byte of the pointer that is not UTF-8
  handle_not_utf8 : ℕ → HandleAnswer
  -- no replica, or no patch log, is held
  handle_not_started : HandleAnswer

-- a call on a replica, or on a patch log, that was started; without one it does nothing and says so
abbrev pub OfStarted : {A : Type 0} → (A → HandleAnswer → A → Type 0) → Option A → HandleAnswer → Option A → Type 0
OfStarted Does None handle_not_started None = ⊤
OfStarted Does (Some before) answer (Some after) = Does before answer after
OfStarted Does before answer after = ⊥

-- ---- replicas

-- whatever texts it followed, it still does
abbrev pub StillFollows : HeldReplica → HeldReplica → Type 0
StillFollows before after = (start : List ℕ) (texts : List (List ℕ)) → FollowsTexts start texts before
    → FollowsTexts start texts after

-- a call that reads makes good first what is pending; with nothing pending it changes nothing
abbrev pub Settles : HeldReplica → HeldReplica → Type 0
Settles before after = StillFollows before after × (before.pending ≡ None → after ≡ before)

-- the text is no document, and that is said
abbrev pub SaysUnread : List ℕ → ReadFault → Option Path → Type 0
SaysUnread text why place = (document_in text ≡ Err why) × IsPlaceIn why text place

-- it is made of the text of a start, or is as it was
abbrev pub IsStarted : List ℕ → Option HeldReplica → HandleAnswer → Option HeldReplica → Type 0
IsStarted start before (handle_text said) (Some r) = (said ≡ []) × FollowsTexts start [] r × (r.pending ≡ None)
IsStarted start before (handle_unread why place) after = SaysUnread start why place × (after ≡ before)
IsStarted start before (handle_fault OutOfMemory) after = after ≡ before
IsStarted start before answer after = ⊥

-- what becomes of a patch, whatever texts were received
abbrev pub Receives : Received → List ℕ → HeldReplica → HeldReplica → Type 0
Receives what patch before after = (start : List ℕ) (texts : List (List ℕ)) → FollowsTexts start texts before
    → FollowsTextsOn what start texts patch after

-- as many places as the limit allows, or no text if there was no memory for it
abbrev pub AreShownOrNone : ℕ → List Path → Option (List Path) → Type 0
AreShownOrNone limit places None = ⊤
AreShownOrNone limit places (Some shown) = AreShown limit places shown

-- of all places at which a patch clashes with the patches of these texts those that come first within the limit: how many there
-- are in all, and as many of these as the limit allows
pub record AreFirstPlacesOf (limit : ℕ) (texts : List (List ℕ)) (patch : List ℕ) (total : ℕ) (said : Option (List Path)) : Type 0 where
  pub documents : List Document
  pub read : AreRead texts documents
  pub change : Document
  pub patch_read : document_in patch ≡ Ok change
  pub places : List Path
  pub first : AreFirstClashesWith limit documents change places total
  pub shown : AreShownOrNone limit places said

-- the patch conflicts with what was received, and is not received
abbrev pub ConflictsWith : List ℕ → HeldReplica → HeldReplica → Type 0
ConflictsWith patch before after = (back : Doc) × Receives (received.Conflict back) patch before after

-- a patch is not shown: it is pending, or it is not received; it conflicts, and there was no memory for the places
abbrev pub IsUnshownPatch : LiveFault → List ℕ → HeldReplica → HeldReplica → Type 0
IsUnshownPatch Pending patch before after = Receives received.Pending patch before after
IsUnshownPatch Conflict patch before after = ConflictsWith patch before after
IsUnshownPatch OutOfMemory patch before after = StillFollows before after
IsUnshownPatch other patch before after = ⊥

abbrev pub HasReceived : ℕ → List ℕ → HeldReplica → HandleAnswer → HeldReplica → Type 0
HasReceived limit patch before (handle_text said) after = (said ≡ []) × Receives received.Taken patch before after
HasReceived limit patch before (handle_conflict total said) after =
    ConflictsWith patch before after
    × ((start : List ℕ) (texts : List (List ℕ)) → FollowsTexts start texts before → AreFirstPlacesOf limit texts patch total said)
HasReceived limit patch before (handle_unread why place) after = SaysUnread patch why place × (after ≡ before)
HasReceived limit patch before (handle_fault why) after = IsUnshownPatch why patch before after
HasReceived limit patch before answer after = ⊥

-- the text of the document, which is that of a replay of whatever texts were received
abbrev pub ShowsDocument : ℕ → HeldReplica → HandleAnswer → HeldReplica → Type 0
ShowsDocument limit before (handle_text shown) after =
    Settles before after × (after.pending ≡ None) × (shown ≡ compact (document after.shown))
    × ((start : List ℕ) (texts : List (List ℕ)) → FollowsTexts start texts before → IsReplayText start texts shown)
    × (length shown ≤ limit)
ShowsDocument limit before (handle_fault why) after = Settles before after × IsUnshown limit why after
ShowsDocument limit before answer after = ⊥

-- the text of the join, which is that of whatever texts were received
abbrev pub ShowsJoin : ℕ → HeldReplica → HandleAnswer → HeldReplica → Type 0
ShowsJoin limit before (handle_text joined) after =
    Settles before after × (after.pending ≡ None)
    × MatchOption after.joined ⊥ (λ j. joined ≡ compact (document j))
    × ((start : List ℕ) (texts : List (List ℕ)) → FollowsTexts start texts before → IsJoinText texts joined)
    × (length joined ≤ limit)
ShowsJoin limit before (handle_fault why) after = Settles before after × IsNotJoined limit why after
ShowsJoin limit before answer after = ⊥

-- the text of the part at the pointer
abbrev pub ShowsPart : ℕ → List ℕ → HeldReplica → HandleAnswer → HeldReplica → Type 0
ShowsPart limit pointer before (handle_text value) after =
    Settles before after × IsUtf8 pointer × (after.pending ≡ None)
    × IsPartOf (document after.shown) pointer value × (length value ≤ limit)
ShowsPart limit pointer before (handle_fault OutOfMemory) after = Settles before after
ShowsPart limit pointer before (handle_fault why) after =
    Settles before after × IsUtf8 pointer × IsNoPart limit why after pointer
ShowsPart limit pointer before (handle_not_utf8 offset) after = (after ≡ before) × IsValidUpTo pointer offset
ShowsPart limit pointer before handle_not_started after = ⊥
ShowsPart limit pointer before (handle_conflict total said) after = ⊥
ShowsPart limit pointer before (handle_first_places total said) after = ⊥
ShowsPart limit pointer before (handle_first_pairs array) after = ⊥
ShowsPart limit pointer before (handle_unread why place) after = ⊥

-- ---- patches without a start

-- a handle that owns nothing has no patches
abbrev pub patches_in : Option HeldPatches → HeldPatches
patches_in None = record { joined = None; pending = None; places = None }
patches_in (Some r) = r

-- a call on patches
abbrev pub OfPatches : (HeldPatches → HandleAnswer → HeldPatches → Type 0) → Option HeldPatches → HandleAnswer
    → Option HeldPatches → Type 0
OfPatches Does before answer after = Does (patches_in before) answer (patches_in after)

-- whatever texts it has taken, it still has
abbrev pub StillTaken : HeldPatches → HeldPatches → Type 0
StillTaken before after = (texts : List (List ℕ)) → HasTakenTexts before texts → HasTakenTexts after texts

-- a call that reads makes good first what is pending; with nothing pending it changes nothing
abbrev pub SettlesPatches : HeldPatches → HeldPatches → Type 0
SettlesPatches before after = StillTaken before after × (before.pending ≡ None → after ≡ before)

-- the places of the conflict that it holds: how many they are, whether there are more, and the text of the array of as many as
-- the limit allows
abbrev pub HoldsPlaces : ℕ → ℕ → Bool → Option (List Path) → HeldPatches → Type 0
HoldsPlaces limit total more said r =
    MatchOption r.places ⊥ (λ held. (total ≡ length held.places) × (more ≡ held.more)
    × AreShownOrNone limit held.places said)

-- what is said of a conflict
abbrev pub SaysConflict : ℕ → HandleAnswer → HeldPatches → Type 0
SaysConflict limit (handle_conflict total said) r = HoldsPlaces limit total false said r
SaysConflict limit (handle_first_places total said) r = HoldsPlaces limit total true said r
SaysConflict limit answer r = ⊥

-- what becomes of a patch, whatever texts were taken
abbrev pub TakesPatch : Added → List ℕ → HeldPatches → HeldPatches → Type 0
TakesPatch what patch before after = (texts : List (List ℕ)) → HasTakenTexts before texts
    → TakesOne HasTakenTexts what texts patch after

-- a patch is not joined: it is taken and cannot be shown, or it is not taken
abbrev pub IsNotAdded : LiveFault → List ℕ → HeldPatches → HeldPatches → Type 0
IsNotAdded Pending patch before after = TakesPatch added.Pending patch before after
IsNotAdded OutOfMemory patch before after = StillTaken before after
IsNotAdded other patch before after = ⊥

abbrev pub HasAdded : ℕ → List ℕ → HeldPatches → HandleAnswer → HeldPatches → Type 0
HasAdded limit patch before (handle_text said) after = (said ≡ []) × TakesPatch added.Joined patch before after
HasAdded limit patch before (handle_conflict total said) after =
    TakesPatch added.Conflict patch before after × SaysConflict limit (handle_conflict total said) after
HasAdded limit patch before (handle_first_places total said) after =
    TakesPatch added.Conflict patch before after × SaysConflict limit (handle_first_places total said) after
HasAdded limit patch before (handle_unread why place) after = SaysUnread patch why place × (after ≡ before)
HasAdded limit patch before (handle_fault why) after = IsNotAdded why patch before after
HasAdded limit patch before answer after = ⊥

-- what becomes of two, whatever texts they have taken
abbrev pub Combines : Added → HeldPatches → HeldPatches → HeldPatches → HeldPatches → Type 0
Combines what before other after left = (texts others : List (List ℕ)) → HasTakenTexts before texts
    → HasTakenTexts other others → TakesAll HasTakenTexts what texts others after left

-- whatever texts two have taken, both still have
abbrev pub StillBoth : HeldPatches → HeldPatches → HeldPatches → HeldPatches → Type 0
StillBoth before other after left = (texts others : List (List ℕ)) → HasTakenTexts before texts
    → HasTakenTexts other others → HasTakenTexts after texts × HasTakenTexts left others

-- two are not joined: all is taken and cannot be shown, or both have what they had
abbrev pub IsNotCombined : LiveFault → HeldPatches → HeldPatches → HeldPatches → HeldPatches → Type 0
IsNotCombined Pending before other after left = Combines added.Pending before other after left
IsNotCombined OutOfMemory before other after left = StillBoth before other after left
IsNotCombined why before other after left = ⊥

abbrev pub HasCombined : ℕ → HeldPatches → HeldPatches → HandleAnswer → HeldPatches → HeldPatches → Type 0
HasCombined limit before other (handle_text said) after left =
    (said ≡ []) × Combines added.Joined before other after left
HasCombined limit before other (handle_conflict total said) after left =
    Combines added.Conflict before other after left × SaysConflict limit (handle_conflict total said) after
HasCombined limit before other (handle_first_places total said) after left =
    Combines added.Conflict before other after left × SaysConflict limit (handle_first_places total said) after
HasCombined limit before other (handle_fault why) after left = IsNotCombined why before other after left
HasCombined limit before other answer after left = ⊥

-- there is no join, though no two conflict, or its text is too long; or memory ran out
abbrev pub HasNoJoin : ℕ → LiveFault → HeldPatches → HeldPatches → Type 0
HasNoJoin limit Pending before after = (after.places ≡ None) × (after.pending ≢ None)
HasNoJoin limit NoPatches before after = (texts : List (List ℕ)) → HasTakenTexts before texts → texts ≡ []
HasNoJoin limit TooLarge before after =
    (after.places ≡ None) × (after.pending ≡ None) × MatchOption after.joined ⊥ (λ j. HasLongText limit (document j))
HasNoJoin limit OutOfMemory before after = ⊤
HasNoJoin limit other before after = ⊥

-- the text of the join of whatever texts were taken, or that two of them conflict
abbrev pub GivesJoin : ℕ → HeldPatches → HandleAnswer → HeldPatches → Type 0
GivesJoin limit before (handle_text joined) after =
    SettlesPatches before after × (after.places ≡ None) × (after.pending ≡ None)
    × MatchOption after.joined ⊥ (λ j. joined ≡ compact (document j))
    × ((texts : List (List ℕ)) → HasTakenTexts before texts → IsJoinText texts joined) × (length joined ≤ limit)
GivesJoin limit before (handle_conflict total said) after =
    SettlesPatches before after × SaysConflict limit (handle_conflict total said) after
    × ((texts : List (List ℕ)) → HasTakenTexts before texts → ¬ AreCompatible texts)
GivesJoin limit before (handle_first_places total said) after =
    SettlesPatches before after × SaysConflict limit (handle_first_places total said) after
    × ((texts : List (List ℕ)) → HasTakenTexts before texts → ¬ AreCompatible texts)
GivesJoin limit before (handle_fault why) after = SettlesPatches before after × HasNoJoin limit why before after
GivesJoin limit before answer after = ⊥

-- the kept form, which is empty exactly if nothing was taken
abbrev pub GivesKept : ℕ → HeldPatches → HandleAnswer → HeldPatches → Type 0
GivesKept limit before (handle_text kept) after =
    SettlesPatches before after × IsKeptText after kept
    × ((texts : List (List ℕ)) → HasTakenTexts before texts → IsKept after kept × ((kept ≡ []) ↔ (texts ≡ [])))
    × (length kept ≤ limit)
GivesKept limit before (handle_fault why) after = SettlesPatches before after × IsNotKeptYet limit why after
GivesKept limit before answer after = ⊥

-- it holds what a kept form holds: it has taken what was taken where that was made
abbrev pub HoldsKept : List ℕ → HeldPatches → Type 0
HoldsKept kept r =
    IsHeldBy kept r
    × ((from : HeldPatches) (texts : List (List ℕ)) → IsKept from kept → HasTakenTexts from texts → HasTakenTexts r texts)

-- it is made of a kept form, or is as it was
abbrev pub IsMadeOfKept : ℕ → List ℕ → HeldPatches → HandleAnswer → HeldPatches → Type 0
IsMadeOfKept limit kept before (handle_text said) after = (said ≡ []) × HoldsKept kept after × (after.places ≡ None)
IsMadeOfKept limit kept before (handle_conflict total said) after =
    HoldsKept kept after × SaysConflict limit (handle_conflict total said) after
IsMadeOfKept limit kept before (handle_first_places total said) after =
    HoldsKept kept after × SaysConflict limit (handle_first_places total said) after
IsMadeOfKept limit kept before (handle_fault why) after = IsNoKept why kept × (after ≡ before)
IsMadeOfKept limit kept before answer after = ⊥
