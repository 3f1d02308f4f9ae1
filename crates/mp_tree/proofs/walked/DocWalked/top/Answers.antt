use Rattle.mp_tree.proofs.Documents.Meaning.{document_of_map}
use Rattle.mp_tree.proofs.walked.DocWalked.top.Goals as goal

pub returns-in-Members : goal.returns-in-Members
returns-in-Members c = document_of_map c.in-Members.entries c.in-Members.is
