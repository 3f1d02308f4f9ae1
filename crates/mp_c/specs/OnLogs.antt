-- What each call on the handle of a patch log answers, and what it makes of what the handle owns.
use Rattle.std.specs.Prelude.{◌≡◌, ◌+◌, ◌^◌, ◌<◌, ◌≤◌, ℕ, pos, true, List, [], ◌∷◌, ◌++◌, Option, None, Some, Ok, codes, length, slice_get, take, ⊤}
use Rattle.std.specs.List.{Contains}
use Rattle.mp_tree.specs.Document.{Document, IsDocument, whole}
use Rattle.mp_tree.specs.Look.{Path}
use Rattle.mp_tree.specs.Text.{document_in, text as compact}
use Rattle.mp_replica.specs.LogTexts.{IsConflictsTextOf, IsConflictsTextWithinOf, IsNoLogText}
use Rattle.mp_replica.specs.Messages.{LogFollows, Becomes, Sent}
use Rattle.mp_replica.specs.PatchLog.{AreFirstConflictsAt, Begins, HaveArrived, HeldLog, IsFirstMissing, IsFirstPair, Shows, Stored, start_of, stored_of}
use Rattle.mp_replica.specs.declared.fault.LiveFault.TheVariants.{OutOfMemory}
use Rattle.mp_replica.specs.declared.message.Arrival.{Arrival}
use Rattle.mp_replica.specs.declared.message.Arrival.TheVariants as arrival
use Rattle.mp_replica.specs.declared.message.Identity.{Identity}
use Rattle.mp_c.specs.OnHandles.{HandleAnswer, AreShownOrNone, SaysUnread, handle_fault, handle_first_pairs, handle_text, handle_unread}

-- it is made of the text of a start and has received nothing, or is as it was
abbrev pub IsStartedLog : ℕ → List ℕ → Option HeldLog → HandleAnswer → Option HeldLog → Type 0
IsStartedLog epoch start before (handle_text said) (Some log) =
    (said ≡ []) × (document_in start ≡ Ok (start_of log)) × (log.epoch ≡ epoch)
    × ((i : Identity) → stored_of log i ≡ None) × LogFollows epoch (start_of log) [] log
IsStartedLog epoch start before (handle_unread why place) after = SaysUnread start why place × (after ≡ before)
IsStartedLog epoch start before (handle_fault OutOfMemory) after = after ≡ before
IsStartedLog epoch start before answer after = ⊥

-- ---- messages

abbrev pub arrival_word : Arrival → List ℕ
arrival_word arrival.Stored = codes "stored"
arrival_word arrival.Repeat = codes "repeat"
arrival_word arrival.Late = codes "late"
arrival_word arrival.Early = codes "early"

-- the text is a patch, and that becomes of its message
pub record ArrivesAs (what : Arrival) (epoch : ℕ) (i : Identity) (text : List ℕ) (before after : HeldLog) : Type 0 where
  pub patch : Document
  pub read : document_in text ≡ Ok patch
  pub receives : Becomes what (record { epoch = epoch; identity = i; patch = patch }) before after
  pub received : (n : ℕ) (start : Document) (messages : List Sent) → LogFollows n start messages before
      → LogFollows n start (messages ++ record { epoch = epoch; identity = i; patch = patch } ∷ []) after

-- the word for what becomes of a message; of a text that is no patch why, whatever the message is
abbrev pub SaysArrival : ℕ → Identity → List ℕ → HeldLog → HandleAnswer → HeldLog → Type 0
SaysArrival epoch i text before (handle_text said) after =
    (what : Arrival) × (said ≡ arrival_word what) × ArrivesAs what epoch i text before after
SaysArrival epoch i text before (handle_unread why place) after = SaysUnread text why place × (after ≡ before)
SaysArrival epoch i text before (handle_fault OutOfMemory) after = after ≡ before
SaysArrival epoch i text before answer after = ⊥

-- ---- what is read

-- a call that changes nothing
abbrev pub OnlyReads : (HeldLog → HandleAnswer → Type 0) → HeldLog → HandleAnswer → HeldLog → Type 0
OnlyReads Gives before answer after = Gives before answer × (after ≡ before)

-- the text of the outcome of the start and of the patches that conflict with no other
abbrev pub GivesLogDocument : ℕ → HeldLog → HandleAnswer → Type 0
GivesLogDocument limit log (handle_text shown) =
    (d : Document) × IsDocument d × Shows (start_of log) (stored_of log) d × (shown ≡ compact d)
    × (length shown ≤ limit)
GivesLogDocument limit log (handle_fault why) = IsNoLogText limit why log
GivesLogDocument limit log answer = ⊥

-- the text of each two patches that conflict and are asked for; or of those that come first within the limit, where a pair or
-- a place is left out
abbrev pub GivesConflicts : Option Identity → ℕ → HeldLog → HandleAnswer → Type 0
GivesConflicts of limit log (handle_text shown) = IsConflictsTextOf of (stored_of log) shown
GivesConflicts of limit log (handle_first_pairs shown) = IsConflictsTextWithinOf limit of (stored_of log) shown true
GivesConflicts of limit log (handle_fault OutOfMemory) = ⊤
GivesConflicts of limit log answer = ⊥

-- how many patches are stored, as the text of a whole number
abbrev pub GivesCount : HeldLog → HandleAnswer → Type 0
GivesCount log (handle_text said) = said ≡ compact (whole (pos (length log.stored)))
GivesCount log (handle_fault OutOfMemory) = ⊤
GivesCount log answer = ⊥

-- ---- decisions

pub data DecideAnswer : Type 0 where
  decide_begun : DecideAnswer
  -- two of the chosen patches conflict: their numbers, at how many places, and those that the limit allows, or no text if there was no
  -- memory for it
  decide_conflict : ℕ → ℕ → ℕ → Option (List Path) → DecideAnswer
  -- under the identity of this number no patch is stored
  decide_missing : ℕ → DecideAnswer
  -- no number is left for a start
  decide_last : DecideAnswer
  decide_no_memory : DecideAnswer
  decide_not_started : DecideAnswer

-- this is the least number at which the identity stands
pub record IsLeastNumber (chosen : List Identity) (i : Identity) (number : ℕ) : Type 0 where
  pub here : slice_get chosen number ≡ Some i
  pub not_before : ¬ Contains (take number chosen) i

-- this is the number of the first of the chosen identities under which no patch is stored
pub record HasNoPatchAt (stored : Stored) (chosen : List Identity) (number : ℕ) : Type 0 where
  pub identity : Identity
  pub at : IsLeastNumber chosen identity number
  pub is_first : IsFirstMissing stored chosen identity

-- the first two of the chosen patches that conflict have these least numbers: at how many places they do, and as many of these as the
-- limit allows
pub record IsFirstConflict (limit : ℕ) (stored : Stored) (chosen : List Identity) (first second total : ℕ)
    (said : Option (List Path)) : Type 0 where
  pub one : Identity
  pub other : Identity
  pub is_first : IsFirstPair stored chosen one other
  pub at_first : IsLeastNumber chosen one first
  pub at_second : IsLeastNumber chosen other second
  pub places : List Path
  pub conflicts : AreFirstConflictsAt limit stored one other places total
  pub shown : AreShownOrNone limit places said

-- why no new start is begun: the first of these that holds
abbrev pub IsUndecided : ℕ → HeldLog → List Identity → DecideAnswer → Type 0
IsUndecided limit log chosen decide_last = 2 ^ 64 ≤ log.epoch + 1
IsUndecided limit log chosen (decide_missing number) =
    (log.epoch + 1 < 2 ^ 64) × HasNoPatchAt (stored_of log) chosen number
IsUndecided limit log chosen (decide_conflict first second total said) =
    (log.epoch + 1 < 2 ^ 64) × HaveArrived (stored_of log) chosen
    × IsFirstConflict limit (stored_of log) chosen first second total said
IsUndecided limit log chosen decide_no_memory = ⊤
IsUndecided limit log chosen answer = ⊥

-- the new start is begun, or the log is as it was
abbrev pub Decides : ℕ → List Identity → HeldLog → DecideAnswer → HeldLog → Type 0
Decides limit chosen before decide_begun after = Begins before chosen after
Decides limit chosen before answer after = IsUndecided limit before chosen answer × (after ≡ before)

-- of a log that was started; without one the call does nothing and says so
abbrev pub HasDecided : ℕ → List Identity → Option HeldLog → DecideAnswer → Option HeldLog → Type 0
HasDecided limit chosen None decide_not_started None = ⊤
HasDecided limit chosen (Some before) answer (Some after) = Decides limit chosen before answer after
HasDecided limit chosen before answer after = ⊥
