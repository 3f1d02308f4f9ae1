use Rattle.std.proofs.Common.{refl}
use Rattle.mp_tree.proofs.Documents.Meaning.{IsDocument-document, document-Members}
use Rattle.mp_tree.proofs.node.DocNode.members_mut.Goals as goal

pub returns : goal.returns
returns c = (refl, record { writes_back = tt; value = c.members_mut.ensures.value; made = document-Members; documents = IsDocument-document })
