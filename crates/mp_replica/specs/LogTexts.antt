-- Texts of a patch log: what it shows, and the pairs that conflict.
use Rattle.std.specs.Prelude.{◌≡◌, ◌≢◌, ◌<◌, ◌≤◌, ◌↔◌, ◌⊎◌, ◌++◌, ℕ, Bool, pos, List, [], ◌∷◌, Option, None, IsTrue, codes, length, ⊤}
use Rattle.mp_tree.specs.Document.{Document, IsDocument, list, item, no_items, whole}
use Rattle.mp_tree.specs.Text.{text as compact}
use Rattle.mp_texts.specs.Answers.{places_list}
use Rattle.mp_replica.specs.Faults.{HasLongText}
use Rattle.mp_replica.specs.PatchLog.{AreAllPairsOf, AreFirstPairsOf, HeldLog, Pair, Shows, Stored, start_of, stored_of}
use Rattle.mp_replica.specs.declared.fault.LiveFault.{LiveFault}
use Rattle.mp_replica.specs.declared.fault.LiveFault.TheVariants.{TooLarge, OutOfMemory}
use Rattle.mp_replica.specs.declared.message.Identity.{Identity}

-- the document that the log shows has a text that is too long
pub record HasLongDocument (limit : ℕ) (log : HeldLog) : Type 0 where
  pub shown : Document
  pub is_document : IsDocument shown
  pub shows : Shows (start_of log) (stored_of log) shown
  pub too_long : HasLongText limit shown

-- there is no text of what the log shows
abbrev pub IsNoLogText : ℕ → LiveFault → HeldLog → Type 0
IsNoLogText limit TooLarge log = HasLongDocument limit log
IsNoLogText limit OutOfMemory log = ⊤
IsNoLogText limit other log = ⊥

-- an array of the sender and the number
abbrev pub identity_document : Identity → Document
identity_document i = list (item (whole (pos i.sender)) (item (whole (pos i.number)) no_items))

-- an object of both identities, and of the places as an array of pointers
abbrev pub pair_text : Pair → List ℕ
pair_text pair =
    codes "{\"first\":" ++ compact (identity_document pair.first) ++ codes ",\"second\":"
    ++ compact (identity_document pair.second) ++ codes ",\"places\":" ++ compact (places_list pair.places) ++ codes "}"

-- each after a comma
abbrev pub more_pairs_text : List Pair → List ℕ
more_pairs_text [] = []
more_pairs_text (pair ∷ pairs) = codes "," ++ pair_text pair ++ more_pairs_text pairs

-- an array of the pairs
abbrev pub pairs_text : List Pair → List ℕ
pairs_text [] = codes "[]"
pairs_text (pair ∷ pairs) = codes "[" ++ pair_text pair ++ more_pairs_text pairs ++ codes "]"

-- the text of all pairs that conflict and are asked for
pub record IsConflictsTextOf (of : Option Identity) (stored : Stored) (answer : List ℕ) : Type 0 where
  pub pairs : List Pair
  pub are_all : AreAllPairsOf of stored pairs
  pub is : answer ≡ pairs_text pairs

-- of all pairs that conflict
abbrev pub IsConflictsText : Stored → List ℕ → Type 0
IsConflictsText = IsConflictsTextOf None

-- the text of the pairs that come first: of as many as there are, or as it can have with at most so many bytes; that of no
-- pair has two. `more` says whether a pair is left out
pub record IsTextOfFirstPairs (limit : ℕ) (pairs : List Pair) (answer : List ℕ) (more : Bool) : Type 0 where
  pub written : List Pair
  pub rest : List Pair
  pub all : pairs ≡ written ++ rest
  pub is : answer ≡ pairs_text written
  pub within : (written ≡ []) ⊎ (length answer ≤ limit)
  pub longest : (next : Pair) (others : List Pair) → rest ≡ next ∷ others
      → limit < length (pairs_text (written ++ next ∷ []))
  pub left_out : IsTrue more ↔ (rest ≢ [])

-- of the pairs that are asked for and come first within the limit; `more` says whether a pair or a place of all is left out
pub record IsConflictsTextWithinOf (limit : ℕ) (of : Option Identity) (stored : Stored) (answer : List ℕ) (more : Bool)
    : Type 0 where
  pub pairs : List Pair
  pub cut : Bool
  pub first : AreFirstPairsOf limit of stored pairs cut
  pub left_out : Bool
  pub text : IsTextOfFirstPairs limit pairs answer left_out
  pub more_is : IsTrue more ↔ (IsTrue cut ⊎ IsTrue left_out)

-- of all pairs
abbrev pub IsConflictsTextWithin : ℕ → Stored → List ℕ → Bool → Type 0
IsConflictsTextWithin limit = IsConflictsTextWithinOf limit None
