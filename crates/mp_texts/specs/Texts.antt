-- Texts that are read, each as a JSON document of its own (RFC 8259).
use Rattle.std.specs.Prelude.{◌≡◌, ℕ, List, map, slice_get, take, Some, Ok, Err}
use Rattle.std.specs.Borrow.{Bor}
use Rattle.mp_tree.specs.Document.{Document}
use Rattle.mp_tree.specs.Text.{document_in}
use Rattle.mp_tree.specs.declared.fault.ReadFault.{ReadFault}
use Rattle.mp_merge.specs.Lists.{HaveSameMembers, PairwiseCompatible}

-- the texts of a slice of texts
abbrev pub given : List (Bor (List ℕ)) → List (List ℕ)
given texts = map (λ t. t.now) texts

-- each text is read, as the document of its number
abbrev pub AreRead : List (List ℕ) → List Document → Type 0
AreRead texts documents = map document_in texts ≡ map Ok documents

-- the text of that number is not a document, for this error, and those in front of it are documents
pub record IsFirstUnread (texts : List (List ℕ)) (number : ℕ) (fault : ReadFault) : Type 0 where
  pub before : List Document
  pub read : AreRead (take number texts) before
  pub text : List ℕ
  pub is : slice_get texts number ≡ Some text
  pub unread : document_in text ≡ Err fault

-- both lists of texts are read, as the same documents, in any order and with any repeats
pub record ReadTheSame (texts others : List (List ℕ)) : Type 0 where
  pub documents : List Document
  pub read : AreRead texts documents
  pub other_documents : List Document
  pub others_read : AreRead others other_documents
  pub same : HaveSameMembers documents other_documents

-- the texts are read, as documents no two of which clash as patches
pub record AreCompatible (texts : List (List ℕ)) : Type 0 where
  pub documents : List Document
  pub read : AreRead texts documents
  pub compatible : PairwiseCompatible documents
