-- What a replica shows, from the bytes of its start and of its patches.
use Rattle.std.specs.Prelude.{◌≡◌, ◌≢◌, ℕ, List, Ok, Err, ⊤}
use Rattle.mp_tree.specs.Document.{Document, IsDocument}
use Rattle.mp_tree.specs.Text.{document_in, documents_in, text as compact}
use Rattle.mp_tree.specs.Elements.{items_of}
use Rattle.mp_merge.specs.Lists.{IsReplayFault}
use Rattle.mp_merge.specs.Outcome.{IsOutcome}
use Rattle.mp_merge.specs.declared.fault.ListFault.TheVariants as list
use Rattle.library_example.specs.declared.fault.ShowFault.{ShowFault}
use Rattle.library_example.specs.declared.fault.ShowFault.TheVariants.{Start, Patches, Replay, OutOfMemory}

-- the documents that the bytes give
pub record AreReadFrom (start patches : List ℕ) (d : Document) (ps : List Document) : Type 0 where
  pub first : document_in start ≡ Ok d
  pub rest : documents_in patches ≡ Ok (items_of ps)

-- the text of the outcome of the start and the patches
pub record IsShown (start patches shown : List ℕ) : Type 0 where
  pub d : Document
  pub ps : List Document
  pub e : Document
  pub is_document : IsDocument e
  pub are : AreReadFrom start patches d ps
  pub outcome : IsOutcome d ps e
  pub text : shown ≡ compact e

-- The first error: of the start; of the patches, if the start was read; or, if both were, the least pair of patches that
-- clash. No bytes are read as out of memory, which `OutOfMemory` alone says: it says nothing of them.
abbrev pub IsNotShown : ShowFault → List ℕ → List ℕ → Type 0
IsNotShown (Start fault) start patches = document_in start ≡ Err fault
IsNotShown (Patches fault) start patches =
    (d : Document) × (document_in start ≡ Ok d) × (documents_in patches ≡ Err fault)
IsNotShown (Replay fault) start patches =
    (fault ≢ list.OutOfMemory)
    × (d : Document) × (ps : List Document) × AreReadFrom start patches d ps × IsReplayFault fault ps
IsNotShown OutOfMemory start patches = ⊤
