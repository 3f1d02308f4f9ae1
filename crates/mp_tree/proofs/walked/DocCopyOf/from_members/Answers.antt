use Rattle.mp_tree.proofs.Documents.Meaning.{document-Members}
use Rattle.mp_tree.proofs.walked.DocCopyOf.from_members.Goals as goal

pub returns : goal.returns
returns g c = document-Members c.args.entries
