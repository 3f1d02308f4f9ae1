use Rattle.mp_patch.proofs.Forms.Values.{forms_have_documents}
use Rattle.mp_patch.proofs.laws.forms_have_documents.Goals as goal

pub returns : goal.returns
returns c = forms_have_documents
