-- Runs of calls over texts: the texts of the start and of the patches, in any order and with any repeats.
use Rattle.std.specs.Prelude.{◌≡◌, ◌≢◌, ℕ, List, [], ◌∷◌, ◌++◌, None, Some, Ok}
use Rattle.mp_tree.specs.Document.{Document, IsReadable}
use Rattle.mp_tree.specs.Look.{Path}
use Rattle.mp_tree.specs.Text.{document_in, text as compact}
use Rattle.mp_tree.specs.View.{document}
use Rattle.mp_pointer.specs.Part.{part}
use Rattle.mp_pointer.specs.Spelling.{Tokens, spell}
use Rattle.mp_texts.specs.Answers.{IsTextOf, places_list}
use Rattle.mp_texts.specs.Texts.{AreCompatible, AreRead}
use Rattle.mp_replica.specs.Following.{Follows}
use Rattle.mp_replica.specs.Held.{AreClashesWith, HeldPatches, HeldReplica}
use Rattle.mp_replica.specs.Taking.{HasTaken}
use Rattle.mp_replica.specs.declared.replica.Received.{Received}
use Rattle.mp_replica.specs.declared.replica.Received.TheVariants.{Taken, Conflict, Pending, Refused}

-- ---- replicas

-- the texts are read, and the replica follows these documents
pub record FollowsTexts (start : List ℕ) (texts : List (List ℕ)) (r : HeldReplica) : Type 0 where
  pub from : Document
  pub start_read : document_in start ≡ Ok from
  pub documents : List Document
  pub read : AreRead texts documents
  pub follows : Follows from documents r

-- what `receive_text` makes of a replica that follows these texts
abbrev pub FollowsTextsOn : Received → List ℕ → List (List ℕ) → List ℕ → HeldReplica → Type 0
FollowsTextsOn Taken start texts t r = FollowsTexts start (texts ++ t ∷ []) r × (r.pending ≡ None)
FollowsTextsOn Pending start texts t r = FollowsTexts start (texts ++ t ∷ []) r × (r.pending ≢ None)
FollowsTextsOn (Conflict back) start texts t r =
    (document_in t ≡ Ok (document back)) × FollowsTexts start texts r × (r.pending ≡ None)
    × (¬ AreCompatible (texts ++ t ∷ []))
FollowsTextsOn Refused start texts t r = FollowsTexts start texts r × (r.pending ≢ None)

-- the text of the part of a document that the pointer names
pub record IsPartOf (d : Document) (pointer answer : List ℕ) : Type 0 where
  pub tokens : Tokens
  pub spelled : pointer ≡ spell tokens
  pub value : Document
  pub is_part : part d tokens ≡ Some value
  pub is : answer ≡ compact value
  pub read_back : IsReadable d → document_in answer ≡ Ok value

-- the text of the places at which the patch of that text clashes with what was received
pub record AreClashesOfText (received : List Document) (patch answer : List ℕ) : Type 0 where
  pub change : Document
  pub patch_read : document_in patch ≡ Ok change
  pub places : List Path
  pub clashes : AreClashesWith received change places
  pub text : IsTextOf (places_list places) answer

-- ---- patches without a start

-- the texts are read, and these documents were taken
pub record HasTakenTexts (r : HeldPatches) (texts : List (List ℕ)) : Type 0 where
  pub documents : List Document
  pub read : AreRead texts documents
  pub taken : HasTaken r documents
