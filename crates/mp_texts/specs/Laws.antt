-- Laws over texts. Each is the contract of a function of the module `laws` that runs nothing.
use Rattle.std.specs.Prelude.{◌≡◌, ◌≢◌, ◌⊎◌, ◌≤◌, ◌+◌, ◌↔◌, ℕ, List, [], ◌∷◌, ◌++◌, Err, Some, codes}
use Rattle.std.specs.List.{Contains}
use Rattle.mp_tree.specs.Document.{depth_limit}
use Rattle.mp_tree.specs.Text.{document_in}
use Rattle.mp_tree.specs.declared.fault.ReadFault.{ReadFault}
use Rattle.mp_tree.specs.declared.fault.ReadFault.TheVariants as read
use Rattle.mp_pointer.specs.Spelling.{Tokens}
use Rattle.mp_patch.specs.Form.{deepest}
use Rattle.mp_texts.specs.Answers.{IsJoinText, IsMergeText, IsPatchText, IsReplayText, IsRewriteText}
use Rattle.mp_texts.specs.Calls.{Call, CallAnswer, IsCallAnswer, MayFail, seen_of}
use Rattle.mp_texts.specs.FaultPlaces.{HasNoFaultPlace, IsFaultPlace}
use Rattle.mp_texts.specs.Lines.{conflict_text, pointers_text}
use Rattle.mp_texts.specs.PlacesTexts.{AreShown}
use Rattle.mp_pointer.specs.Part.{numeral}
use Rattle.mp_texts.specs.Reduces.{Parts, JoinsThrough, texts_in}
use Rattle.mp_texts.specs.Texts.{AreCompatible, ReadTheSame}
use Rattle.mp_texts.specs.declared.fault.TextsFault.{TextsFault}
use Rattle.mp_texts.specs.declared.fault.TextsFault.TheVariants.{OutOfMemory}

-- ---- one join

-- lists whose texts read as the same documents have one join text
abbrev pub OneJoinText : Type 0
OneJoinText = (texts others : List (List ℕ)) (answer other : List ℕ) → ReadTheSame texts others
    → IsJoinText texts answer → IsJoinText others other → answer ≡ other

-- and that of the one is that of the other, so one list has one exactly if the other has
abbrev pub JoinTextsAreShared : Type 0
JoinTextsAreShared = (texts others : List (List ℕ)) (answer : List ℕ) → ReadTheSame texts others
    → IsJoinText texts answer ↔ IsJoinText others answer

-- ---- joins of joins

-- the join text of two join texts is that of all
abbrev pub JoinOfTwoJoins : Type 0
JoinOfTwoJoins = (texts others : List (List ℕ)) (one other answer : List ℕ)
    → IsJoinText texts one → IsJoinText others other
    → IsJoinText (one ∷ other ∷ []) answer ↔ IsJoinText (texts ++ others) answer

abbrev pub HasJoinText : List (List ℕ) → Type 0
HasJoinText texts = (answer : List ℕ) × IsJoinText texts answer

-- if all have one, some of them have one, if there is at least one
abbrev pub EachPartHasAJoin : Type 0
EachPartHasAJoin = (texts some : List (List ℕ)) → HasJoinText texts
    → ((text : List ℕ) → Contains some text → Contains texts text) → some ≢ [] → HasJoinText some

-- ---- reduces

-- trees whose texts read as the same documents, in any order and with any repeats, are joined through to one text
abbrev pub ReducesAgree : Type 0
ReducesAgree = (parts others : Parts) (answer other : List ℕ) → ReadTheSame (texts_in parts) (texts_in others)
    → JoinsThrough parts answer → JoinsThrough others other → answer ≡ other

-- and that is the join text of all
abbrev pub ReducesGiveTheJoin : Type 0
ReducesGiveTheJoin = (texts : List (List ℕ)) (parts : Parts) (answer : List ℕ) → ReadTheSame texts (texts_in parts)
    → JoinsThrough parts answer → IsJoinText texts answer

-- each tree is joined through exactly if the texts are pairwise compatible
abbrev pub ReducesExist : Type 0
ReducesExist = (texts : List (List ℕ)) (parts : Parts) → ReadTheSame texts (texts_in parts)
    → ((answer : List ℕ) × JoinsThrough parts answer) ↔ AreCompatible texts

-- whatever the texts of a tree are, it is joined through exactly if all of them are documents, no two of which conflict
abbrev pub ReducesDecide : Type 0
ReducesDecide = (parts : Parts) → ((answer : List ℕ) × JoinsThrough parts answer) ↔ AreCompatible (texts_in parts)

-- ---- replays

-- replays of one start and of patches that read as the same documents are one text
abbrev pub OneReplayText : Type 0
OneReplayText = (start other_start : List ℕ) (texts others : List (List ℕ)) (answer other : List ℕ)
    → document_in start ≡ document_in other_start → ReadTheSame texts others
    → IsReplayText start texts answer → IsReplayText other_start others other → answer ≡ other

-- it is the merge of the start and the patches' join text, and nothing else is
abbrev pub ReplayIsMerge : Type 0
ReplayIsMerge = (start : List ℕ) (texts : List (List ℕ)) (answer joined merged : List ℕ)
    → IsReplayText start texts answer → IsJoinText texts joined
    → IsMergeText start (joined ∷ []) merged ↔ (merged ≡ answer)

-- and the result of the join text's rewriting, if its values allow the two levels around them
abbrev pub ReplayIsPatch : Type 0
ReplayIsPatch = (start : List ℕ) (texts : List (List ℕ)) (answer joined edits patched : List ℕ)
    → IsReplayText start texts answer → IsJoinText texts joined
    → (rewritten : IsRewriteText start joined edits) → 2 + deepest rewritten.operations ≤ depth_limit
    → IsPatchText start edits patched ↔ (patched ≡ answer)

-- ---- one answer, within whatever limit

-- a call has an answer, whatever bytes it is given
abbrev pub CallHasAnswer : Type 0
CallHasAnswer = (limit : ℕ) (call : Call) → (answer : CallAnswer) × IsCallAnswer limit call answer

-- and one alone: it is a function of the call's arguments
abbrev pub CallHasOneAnswer : Type 0
CallHasOneAnswer = (limit : ℕ) (call : Call) (answer other : CallAnswer)
    → IsCallAnswer limit call answer → IsCallAnswer limit call other → answer ≡ other

-- a text that its contract admits is that answer by definition; so is what is seen of an error, unless memory ran out
abbrev pub FaultsShowTheAnswer : Type 0
FaultsShowTheAnswer = (limit : ℕ) (call : Call) (fault : TextsFault) → MayFail limit call fault → fault ≢ OutOfMemory
    → IsCallAnswer limit call (seen_of fault)

-- ---- where a text is no document

-- a text that is read, and is no document for an error, has a place of that error
abbrev pub FaultHasPlace : Type 0
FaultHasPlace = (fault : ReadFault) (text : List ℕ) → fault ≢ read.NotJson → fault ≢ read.OutOfMemory
    → document_in text ≡ Err fault → (place : Tokens) × IsFaultPlace fault text place

-- and one alone
abbrev pub FaultHasOnePlace : Type 0
FaultHasOnePlace = (fault : ReadFault) (text : List ℕ) (place other : Tokens)
    → IsFaultPlace fault text place → IsFaultPlace fault text other → place ≡ other

-- whatever the text and the error, there is no such place, or there is one
abbrev pub HasPlaceOrNone : Type 0
HasPlaceOrNone = (fault : ReadFault) (text : List ℕ)
    → HasNoFaultPlace fault text ⊎ ((place : Tokens) × IsFaultPlace fault text place)

-- and not both
abbrev pub NoPlaceIsNone : Type 0
NoPlaceIsNone = (fault : ReadFault) (text : List ℕ) (place : Tokens)
    → HasNoFaultPlace fault text → ¬ IsFaultPlace fault text place

-- ---- the places that are shown

-- some are, of each list and within each limit
abbrev pub SomeAreShown : Type 0
SomeAreShown = (limit : ℕ) (places : List Tokens) → (shown : List Tokens) × AreShown limit places shown

-- and these alone
abbrev pub TheseAreShown : Type 0
TheseAreShown = (limit : ℕ) (places shown others : List Tokens)
    → AreShown limit places shown → AreShown limit places others → shown ≡ others

-- ---- the line of a conflict

-- with all places it lists these, and nothing follows them
abbrev pub AllPlacesAreListed : Type 0
AllPlacesAreListed = (first second : ℕ) (place : Tokens) (places : List Tokens)
    → conflict_text (Some (first, second)) (place ∷ places) (Some 0)
    ≡ codes "conflict: patches " ++ numeral first ++ codes " and " ++ numeral second ++ codes " at "
    ++ pointers_text (place ∷ places)
