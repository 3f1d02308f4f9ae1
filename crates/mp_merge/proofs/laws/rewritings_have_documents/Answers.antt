use Rattle.mp_merge.proofs.Rewritings.SomeRewriting.{rewriting_has_documents}
use Rattle.mp_merge.proofs.laws.rewritings_have_documents.Goals as goal

pub returns : goal.returns
returns c = rewriting_has_documents
