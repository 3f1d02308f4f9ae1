-- What each export answers: the text or the error of the call over texts of its name; where a text has the value for which it is
-- no document; and of a pointer that is not a text where it stops being one.
use Rattle.std.specs.Prelude.{◌≡◌, ◌∷◌, [], ℕ, List, Option, None, Some, Err, slice_get, ⊤}
use Rattle.std.specs.Str.{IsUtf8, IsValidUpTo}
use Rattle.mp_tree.specs.Text.{document_in}
use Rattle.mp_tree.specs.declared.fault.ReadFault.{ReadFault}
use Rattle.mp_pointer.specs.Spelling.{Tokens}
use Rattle.mp_merge.specs.declared.fault.ListFault.TheVariants.{ConflictOf}
use Rattle.mp_texts.specs.Calls.{Call, MayConflict, MayFail, MayReturn, join_texts, merge_texts, part_text, patch_text}
use Rattle.mp_texts.specs.Calls.{replay_texts, rewrite_text}
use Rattle.mp_texts.specs.FaultPlaces.{HasNoFaultPlace, IsFaultPlace}
use Rattle.mp_texts.specs.Faults.{IsRead}
use Rattle.mp_texts.specs.PlacesTexts.{AreShown}
use Rattle.mp_texts.specs.declared.fault.TextsFault.{TextsFault}
use Rattle.mp_texts.specs.declared.fault.TextsFault.TheVariants.{Document as NoDocument, Patch, List as OfList, OutOfMemory}

pub data ExportAnswer : Type 0 where
  answer_text : List ℕ → ExportAnswer
  -- two patches conflict: their numbers, at how many places, and those that the limit allows
  answer_conflict : ℕ → ℕ → ℕ → List Tokens → ExportAnswer
  -- the document is none, and where it has the value for which it is none, if it has one
  answer_document : ReadFault → Option Tokens → ExportAnswer
  -- nor is the patch of that number
  answer_patch : ℕ → ReadFault → Option Tokens → ExportAnswer
  -- another error
  answer_fault : TextsFault → ExportAnswer
  -- the offset of the first byte of the pointer that is not UTF-8
  not_utf8 : ℕ → ExportAnswer

-- ---- the texts of a call

abbrev pub call_document : Call → List ℕ
call_document (join_texts patches) = []
call_document (replay_texts start patches) = start
call_document (merge_texts document patches) = document
call_document (rewrite_text document patch) = document
call_document (patch_text document json_patch) = document
call_document (part_text document pointer) = document

abbrev pub call_patches : Call → List (List ℕ)
call_patches (join_texts patches) = patches
call_patches (replay_texts start patches) = patches
call_patches (merge_texts document patches) = patches
call_patches (rewrite_text document patch) = patch ∷ []
call_patches (patch_text document json_patch) = json_patch ∷ []
call_patches (part_text document pointer) = []

-- ---- where a text has the value for which it is no document

abbrev pub IsPlaceIn : ReadFault → List ℕ → Option Tokens → Type 0
IsPlaceIn why text None = HasNoFaultPlace why text
IsPlaceIn why text (Some place) = IsFaultPlace why text place

-- the text of that number has it there
abbrev pub IsPlaceAt : ReadFault → List (List ℕ) → ℕ → Option Tokens → Type 0
IsPlaceAt why texts number place = (text : List ℕ) → slice_get texts number ≡ Some text → IsPlaceIn why text place

-- ---- what an export may answer

-- an error that has an answer of its own above
abbrev pub IsOther : TextsFault → Type 0
IsOther (NoDocument why) = ⊥
IsOther (Patch number why) = ⊥
IsOther (OfList (ConflictOf first second conflicts)) = ⊥
IsOther other = ⊤

-- as the call over texts does
abbrev pub OfCall : ℕ → Call → ExportAnswer → Type 0
OfCall limit call (answer_text text) = MayReturn limit call text
OfCall limit call (answer_conflict first second total shown) =
    (places : List Tokens) × MayConflict limit call first second places total × AreShown limit places shown
OfCall limit call (answer_document why place) =
    MayFail limit call (NoDocument why) × IsPlaceIn why (call_document call) place
OfCall limit call (answer_patch number why place) =
    MayFail limit call (Patch number why) × IsPlaceAt why (call_patches call) number place
OfCall limit call (answer_fault why) = IsOther why × MayFail limit call why
OfCall limit call (not_utf8 offset) = ⊥

-- a document that is not one is reported before a pointer that is not a text, and that before what is wrong with its
-- spelling
abbrev pub IsPart : ℕ → List ℕ → List ℕ → ExportAnswer → Type 0
IsPart limit document pointer (answer_document why place) =
    (document_in document ≡ Err why) × IsPlaceIn why document place
IsPart limit document pointer (not_utf8 offset) = IsRead document × IsValidUpTo pointer offset
IsPart limit document pointer (answer_fault OutOfMemory) = ⊤
IsPart limit document pointer answer = IsUtf8 pointer × OfCall limit (part_text document pointer) answer
