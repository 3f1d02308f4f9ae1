use Rattle.mp_tree.proofs.Documents.Meaning.{IsDocument-document}
use Rattle.mp_tree.proofs.node.DocNode.kind.Goals as goal

pub returns : goal.returns
returns c = record { documents = IsDocument-document; value = c.top.ensures }
