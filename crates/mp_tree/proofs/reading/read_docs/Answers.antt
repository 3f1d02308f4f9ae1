use Rattle.std.proofs.Common.{◌≡◌, ◌≤◌, ap, ◌∙◌, subst, arith}
use Rattle.mp_tree.specs.Document.{depth, list}
use Rattle.mp_tree.specs.View.{document, items}
use Rattle.mp_tree.proofs.Documents.Meaning.{document-Items}
use Rattle.mp_tree.proofs.Documents.Depths.{item_depth-by}
use Rattle.mp_tree.proofs.reading.read_docs.Goals as goal

pub returns-in-Items-clause-depth : goal.returns-in-Items-clause-depth
returns-in-Items-clause-depth c = λ k d below.
    let docs = c.in-Items.docs in
    let is : document c.in_ok-docs.field-0 ≡ list (items docs.items) = ap document c.in-Items.is ∙ document-Items docs in
    let whole : depth (list (items docs.items)) ≤ 127 = subst (λ x. depth x ≤ 127) is c.in_ok-docs.ensures.nests in
    omega (arith, item_depth-by document docs.items k d below)

pub returns-clause-documents : goal.returns-clause-documents
returns-clause-documents c = tt
