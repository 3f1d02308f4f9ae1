use Rattle.mp_patch.proofs.Forms.Values.{have_documents}
use Rattle.mp_patch.proofs.laws.patches_have_documents.Goals as goal

pub returns : goal.returns
returns c = have_documents
