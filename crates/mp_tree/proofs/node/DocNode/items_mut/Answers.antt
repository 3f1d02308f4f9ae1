use Rattle.std.proofs.Common.{refl}
use Rattle.mp_tree.proofs.Documents.Meaning.{IsDocument-document, document-Items}
use Rattle.mp_tree.proofs.node.DocNode.items_mut.Goals as goal

pub returns : goal.returns
returns c = (refl, record { writes_back = tt; value = c.items_mut.ensures.value; made = document-Items; documents = IsDocument-document })
