use Rattle.std.proofs.Common.{inr, refl}
use Rattle.mp_tree.specs.Text.{text as compact}
use Rattle.mp_tree.specs.Values.{value_document}
use Rattle.mp_tree.proofs.Facts.{document_in-read}
use Rattle.mp_patch.specs.Form.{shapes}
use Rattle.mp_patch.specs.View.{operations_of}
use Rattle.mp_texts.specs.Answers.{IsLightRewriteText, IsRewriteText}
use Rattle.mp_texts.specs.Faults.{IsRewriteTextFault}
use Rattle.mp_texts.proofs.Short.{answered}
use Rattle.mp_texts.proofs.documents.rewrite_text.Goals as goal

-- its operations can be written, since the document and the patch can be read
pub returns : goal.returns
returns c =
    let document = c.args.document.now in
    let patch = c.args.patch.now in
    let d = value_document c.in_ok-doc.doc in
    let p = value_document c.in_ok-patch.patch in
    let operations = operations_of c.in_ok-edits.edits in
    let written = compact (shapes operations) in
    let readable = c.readings_are_documents.ensures.document in
    let writable = c.rewritings_are_writable.ensures.writable d p operations (readable document d c.in_ok-doc.ensures) (readable patch p c.in_ok-patch.ensures) c.in_ok-edits.ensures.rewriting in
    let is : IsRewriteText document patch written = record {
      from = d;
      document_read = c.in_ok-doc.ensures;
      change = p;
      patch_read = c.in_ok-patch.ensures;
      operations = operations;
      is_rewriting = c.in_ok-edits.ensures.rewriting;
      is = refl;
      read_back = λ within.
          let good = c.shapes_are_readable.ensures operations writable within in
          document_in-read written (shapes operations) (c.texts_read_back.ensures.readable (shapes operations) good) good.within;
    } in
    let light : IsLightRewriteText c.args.limit document patch written = (is, c.in_ok-edits.ensures.within) in
    answered c.args.limit c.patch_unless_longer.result written (IsLightRewriteText c.args.limit document patch) (λ fault. IsRewriteTextFault c.args.limit fault document patch) c.patch_unless_longer.ensures light (λ long. inr (refl, long)) tt
