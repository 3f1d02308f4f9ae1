use Rattle.mp_pointer.proofs.Parts.Documents.{part-document}
use Rattle.mp_pointer.proofs.laws.parts_are_documents.Goals as goal

pub returns : goal.returns
returns c = part-document
