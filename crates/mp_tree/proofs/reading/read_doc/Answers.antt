use Rattle.std.proofs.Common.{◌≤◌}
use Rattle.mp_tree.specs.Document.{depth, depth_limit}
use Rattle.mp_tree.specs.View.{document}
use Rattle.mp_tree.proofs.Readings.Values.{document_in-read}
use Rattle.mp_tree.proofs.reading.read_doc.Goals as goal
use Rattle.mp_tree.proofs.reading.read_doc.Goals.{else-is_deep-via-then-is_deep+else-not-fits, else-is_deep-via-else-is_deep}

within : (c : goal.Joined-else-is_deep) → depth (document c.in_ok-doc.doc) ≤ depth_limit
within c = elim c.else-is_deep.branch [
  | else-is_deep-via-then-is_deep+else-not-fits w ↦ w.fits.ensures.fits.0 w.if-not-fits.false
  | else-is_deep-via-else-is_deep w ↦ (c.in_ok-doc.ensures.shallow w.if-is_deep.false).1
]

pub returns-clause-depth : goal.returns-clause-depth
returns-clause-depth c = within c

pub returns-clause-document : goal.returns-clause-document
returns-clause-document c = document_in-read c.args.bytes.now (document c.in_ok-doc.doc) c.in_ok-doc.ensures.ok (within c)
