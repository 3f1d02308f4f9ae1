-- The text that each call answers.
use Rattle.std.specs.Prelude.{◌≡◌, ◌≢◌, ◌<◌, ◌≤◌, ◌+◌, ℕ, List, length, map, Some, Ok}
use Rattle.mp_tree.specs.Document.{Document, list, string, depth_limit}
use Rattle.mp_tree.specs.Elements.{items_of}
use Rattle.mp_tree.specs.Text.{document_in, text as compact}
use Rattle.mp_pointer.specs.Part.{part}
use Rattle.mp_pointer.specs.Spelling.{Tokens, spell}
use Rattle.mp_patch.specs.Form.{AreForms, deepest, shapes}
use Rattle.mp_patch.specs.Operation.{Operation}
use Rattle.mp_patch.specs.Run.{Runs}
use Rattle.mp_patch.specs.Weight.{operations_weight}
use Rattle.mp_patch.specs.Within.{RunsWithin}
use Rattle.mp_patch.specs.Work.{no_limit}
use Rattle.mp_merge.specs.Application.{in_turn}
use Rattle.mp_merge.specs.Join.{IsJoin}
use Rattle.mp_merge.specs.Outcome.{IsOutcome}
use Rattle.mp_merge.specs.Rewriting.{IsRewriting}
use Rattle.mp_texts.specs.Texts.{AreRead}

-- the document's compact text, which is read back as the document
pub record IsTextOf (d : Document) (answer : List ℕ) : Type 0 where
  pub is : answer ≡ compact d
  pub read_back : document_in answer ≡ Ok d

-- ---- lists of merge patches

-- of the patches' join
pub record IsJoinText (patches : List (List ℕ)) (answer : List ℕ) : Type 0 where
  pub documents : List Document
  pub read : AreRead patches documents
  pub join : Document
  pub is_join : IsJoin documents join
  pub text : IsTextOf join answer

-- of the outcome of the start and the patches
pub record IsReplayText (start : List ℕ) (patches : List (List ℕ)) (answer : List ℕ) : Type 0 where
  pub from : Document
  pub start_read : document_in start ≡ Ok from
  pub documents : List Document
  pub read : AreRead patches documents
  pub outcome : Document
  pub is_outcome : IsOutcome from documents outcome
  pub text : IsTextOf outcome answer

-- of the document after the patches, in turn
pub record IsMergeText (document : List ℕ) (patches : List (List ℕ)) (answer : List ℕ) : Type 0 where
  pub from : Document
  pub document_read : document_in document ≡ Ok from
  pub documents : List Document
  pub read : AreRead patches documents
  pub text : IsTextOf (in_turn from documents) answer

-- ---- one document

-- of the patch's rewriting against the document: read back if its values allow the two levels around them
pub record IsRewriteText (document patch answer : List ℕ) : Type 0 where
  pub from : Document
  pub document_read : document_in document ≡ Ok from
  pub change : Document
  pub patch_read : document_in patch ≡ Ok change
  pub operations : List Operation
  pub is_rewriting : IsRewriting from change operations
  pub is : answer ≡ compact (shapes operations)
  pub read_back : 2 + deepest operations ≤ depth_limit → document_in answer ≡ Ok (shapes operations)

-- of the document that the JSON Patch leads to
pub record IsPatchText (document json_patch answer : List ℕ) : Type 0 where
  pub from : Document
  pub document_read : document_in document ≡ Ok from
  pub form : Document
  pub patch_read : document_in json_patch ≡ Ok form
  pub operations : List Operation
  pub forms : AreForms form operations
  pub end : Document
  pub runs : Runs from operations end
  pub text : IsTextOf end answer

-- of the part that the pointer names
pub record IsPartText (document pointer answer : List ℕ) : Type 0 where
  pub from : Document
  pub document_read : document_in document ≡ Ok from
  pub tokens : Tokens
  pub spelled : pointer ≡ spell tokens
  pub value : Document
  pub is_part : part from tokens ≡ Some value
  pub text : IsTextOf value answer

-- ---- places

-- a pointer's spelling, as a JSON string
abbrev pub place_of : Tokens → Document
place_of place = string (spell place)

-- the spellings, in order
abbrev pub places_list : List Tokens → Document
places_list places = list (items_of (map place_of places))

-- ---- within a limit in bytes

-- the answer has at most so many bytes
abbrev pub Within : ℕ → (List ℕ → Type 0) → List ℕ → Type 0
Within limit IsAnswer answer = IsAnswer answer × (length answer ≤ limit)

-- there is an answer, and it has more
abbrev pub IsTooLong : ℕ → (List ℕ → Type 0) → Type 0
IsTooLong limit IsAnswer = (answer : List ℕ) × IsAnswer answer × (limit < length answer)

-- the operations of the rewriting together weigh at most the limit, if there is one
abbrev pub IsLightRewriteText : ℕ → List ℕ → List ℕ → List ℕ → Type 0
IsLightRewriteText limit document patch answer =
    (rewritten : IsRewriteText document patch answer)
    × (limit ≢ no_limit → operations_weight rewritten.operations ≤ limit)

-- the operations lead to the end within the limit, if there is one
abbrev pub IsLightPatchText : ℕ → List ℕ → List ℕ → List ℕ → Type 0
IsLightPatchText limit document json_patch answer =
    (patched : IsPatchText document json_patch answer)
    × RunsWithin limit patched.from patched.operations patched.end
