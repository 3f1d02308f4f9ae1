use Rattle.std.proofs.Common.{ap, ◌∙◌, arith}
use Rattle.mp_tree.specs.Document.{depth, list}
use Rattle.mp_tree.proofs.Facts.{document-Items}
use Rattle.mp_patch.specs.Form.{shapes}
use Rattle.mp_patch.specs.View.{operations_of}
use Rattle.mp_patch.proofs.Shapes.Made.{shapes-depth}
use Rattle.mp_patch.proofs.patch.JsonPatch.to_doc.Goals as goal

pub returns-clause-document : goal.returns-clause-document
returns-clause-document c = document-Items c.in_ok-docs_of.field-0 ∙ ap list c.in_ok-docs_of.ensures ∙ ap (λ ops. shapes (operations_of ops)) c.ops.ensures

pub returns-clause-depth : goal.returns-clause-depth
returns-clause-depth c = omega (arith, ap depth (returns-clause-document c), shapes-depth (operations_of c.args.self.now))
