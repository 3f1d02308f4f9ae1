-- What is reported of a text that is not a document. Only private clauses cite it.
use Rattle.std.specs.Prelude.{◌≡◌, ℕ, List, Err, ⊤}
use Rattle.mp_tree.specs.Text.{document_in}
use Rattle.mp_texts.specs.Texts.{IsFirstUnread}
use Rattle.mp_texts.specs.declared.fault.TextsFault.{TextsFault}
use Rattle.mp_texts.specs.declared.fault.TextsFault.TheVariants.{Document as NoDocument, Patch, OutOfMemory}

-- of the document or the start
abbrev pub IsDocumentFault : TextsFault → List ℕ → Type 0
IsDocumentFault (NoDocument fault) text = document_in text ≡ Err fault
IsDocumentFault OutOfMemory text = ⊤
IsDocumentFault other text = ⊥

-- of the patch with that number
abbrev pub IsPatchFault : TextsFault → List ℕ → ℕ → Type 0
IsPatchFault (Patch number fault) text here = (number ≡ here) × (document_in text ≡ Err fault)
IsPatchFault OutOfMemory text here = ⊤
IsPatchFault other text here = ⊥

-- of a list of patches
abbrev pub IsPatchesFault : TextsFault → List (List ℕ) → Type 0
IsPatchesFault (Patch number fault) texts = IsFirstUnread texts number fault
IsPatchesFault OutOfMemory texts = ⊤
IsPatchesFault other texts = ⊥
