use Rattle.std.proofs.Common.{◌≡◌, ◌≤◌, ap, ◌∙◌, subst, arith}
use Rattle.mp_tree.specs.Document.{depth, list}
use Rattle.mp_tree.specs.Values.{value_document, value_items}
use Rattle.mp_tree.proofs.Valued.Meaning.{value-Array}
use Rattle.mp_tree.proofs.Documents.Depths.{item_depth-by}
use Rattle.mp_tree.proofs.values.read_values.Goals as goal

pub returns-in-Array-clause-depth : goal.returns-in-Array-clause-depth
returns-in-Array-clause-depth c = λ k d below.
    let docs = c.in-Array.values in
    let is : value_document c.in_ok-value.field-0.value ≡ list (value_items docs.items) = ap value_document c.in-Array.is ∙ value-Array docs in
    let whole : depth (list (value_items docs.items)) ≤ 127 = subst (λ x. depth x ≤ 127) is c.in_ok-value.ensures.nests in
    omega (arith, item_depth-by value_document docs.items k d below)

pub returns-clause-documents : goal.returns-clause-documents
returns-clause-documents c = tt
