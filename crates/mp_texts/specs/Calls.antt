-- The six calls over texts with their arguments, and the answers that their contracts admit, as plain data.
use Rattle.std.specs.Prelude.{◌≡◌, ◌≢◌, ℕ, List}
use Rattle.mp_tree.specs.Document.{Document}
use Rattle.mp_pointer.specs.Spelling.{Tokens}
use Rattle.mp_merge.specs.Within.{IsReportedPairWithin}
use Rattle.mp_merge.specs.declared.fault.ListFault.TheVariants.{ConflictOf}
use Rattle.mp_texts.specs.Answers.{IsJoinText, IsLightPatchText, IsLightRewriteText, IsMergeText, IsPartText, IsReplayText, Within}
use Rattle.mp_texts.specs.Faults.{IsJoinTextFault, IsMergeTextFault, IsPartTextFault, IsPatchTextFault, IsRead}
use Rattle.mp_texts.specs.Faults.{IsReplayTextFault, IsRewriteTextFault}
use Rattle.mp_texts.specs.Texts.{AreRead}
use Rattle.mp_texts.specs.declared.fault.TextsFault.{TextsFault}
use Rattle.mp_texts.specs.declared.fault.TextsFault.TheVariants.{List as OfList, OutOfMemory}

-- a call with its arguments
pub data Call : Type 0 where
  join_texts : List (List ℕ) → Call
  replay_texts : List ℕ → List (List ℕ) → Call
  merge_texts : List ℕ → List (List ℕ) → Call
  rewrite_text : List ℕ → List ℕ → Call
  patch_text : List ℕ → List ℕ → Call
  part_text : List ℕ → List ℕ → Call

-- ---- what the contract of the call says of a text, and of an error, within a limit in bytes

abbrev pub MayReturn : ℕ → Call → List ℕ → Type 0
MayReturn limit (join_texts patches) text = Within limit (IsJoinText patches) text
MayReturn limit (replay_texts start patches) text = Within limit (IsReplayText start patches) text
MayReturn limit (merge_texts document patches) text = Within limit (IsMergeText document patches) text
MayReturn limit (rewrite_text document patch) text = Within limit (IsLightRewriteText limit document patch) text
MayReturn limit (patch_text document json_patch) text = Within limit (IsLightPatchText limit document json_patch) text
MayReturn limit (part_text document pointer) text = Within limit (IsPartText document pointer) text

abbrev pub MayFail : ℕ → Call → TextsFault → Type 0
MayFail limit (join_texts patches) fault = IsJoinTextFault limit fault patches
MayFail limit (replay_texts start patches) fault = IsReplayTextFault limit fault start patches
MayFail limit (merge_texts document patches) fault = IsMergeTextFault limit fault document patches
MayFail limit (rewrite_text document patch) fault = IsRewriteTextFault limit fault document patch
MayFail limit (patch_text document json_patch) fault = IsPatchTextFault limit fault document json_patch
MayFail limit (part_text document pointer) fault = IsPartTextFault limit fault document pointer

-- ---- the answer, as its caller sees it

-- a text; of a conflict the two numbers, the places that are reported, whatever vector has them, and how many there are; or
-- another error
pub data CallAnswer : Type 0 where
  returned : List ℕ → CallAnswer
  conflicting : ℕ → ℕ → List Tokens → ℕ → CallAnswer
  failed : TextsFault → CallAnswer

-- what is seen of an error
abbrev pub seen_of : TextsFault → CallAnswer
seen_of (OfList (ConflictOf first second conflicts)) =
    conflicting first second conflicts.places.items conflicts.total
seen_of fault = failed fault

-- the patches are read, and these are the numbers of the pair that conflicts, the places within the limit, and their number
abbrev pub HaveConflict : ℕ → List (List ℕ) → ℕ → ℕ → List Tokens → ℕ → Type 0
HaveConflict limit patches first second places total =
    (ds : List Document) × AreRead patches ds × IsReportedPairWithin limit ds first second places total

abbrev pub MayConflict : ℕ → Call → ℕ → ℕ → List Tokens → ℕ → Type 0
MayConflict limit (join_texts patches) first second places total =
    HaveConflict limit patches first second places total
MayConflict limit (replay_texts start patches) first second places total =
    IsRead start × HaveConflict limit patches first second places total
MayConflict limit call first second places total = ⊥

-- an answer that the call may give within the limit, unless memory runs out; a conflict is seen as one, whatever vector has its
-- places
abbrev pub IsCallAnswer : ℕ → Call → CallAnswer → Type 0
IsCallAnswer limit call (returned text) = MayReturn limit call text
IsCallAnswer limit call (conflicting first second places total) = MayConflict limit call first second places total
IsCallAnswer limit call (failed fault) =
    (fault ≢ OutOfMemory) × (seen_of fault ≡ failed fault) × MayFail limit call fault
