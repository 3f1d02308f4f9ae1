use Rattle.mp_tree.proofs.Valued.Meaning.{values_are_documents}
use Rattle.mp_tree.proofs.laws.values_are_documents.Goals as goal

pub returns : goal.returns
returns c = values_are_documents
