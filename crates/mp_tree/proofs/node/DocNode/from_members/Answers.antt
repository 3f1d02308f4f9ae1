use Rattle.mp_tree.proofs.Documents.Meaning.{document-Members}
use Rattle.mp_tree.proofs.node.DocNode.from_members.Goals as goal

pub returns : goal.returns
returns c = document-Members c.args.entries
