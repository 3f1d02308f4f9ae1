use Rattle.mp_tree.specs.View.{document}
use Rattle.mp_tree.proofs.Documents.Meaning.{IsReadable-document}
use Rattle.mp_tree.proofs.Texts.RoundTrip.{read-text}
use Rattle.mp_tree.proofs.writing.write_doc_within.Goals as goal

pub returns : goal.returns
returns c = let d = c.args.doc.now in record { text = c.written_within.ensures; reads_back = λ fits. read-text (document d) (IsReadable-document d fits) }
