use Rattle.mp_tree.proofs.Documents.Meaning.{docs_are_documents}
use Rattle.mp_tree.proofs.laws.docs_are_documents.Goals as goal

pub returns : goal.returns
returns c = docs_are_documents
