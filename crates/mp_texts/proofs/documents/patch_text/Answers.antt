use Rattle.std.proofs.Common.{inr, refl}
use Rattle.mp_tree.specs.Text.{text as compact}
use Rattle.mp_tree.specs.Values.{value_document}
use Rattle.mp_patch.specs.View.{operations_by}
use Rattle.mp_texts.specs.Answers.{IsLightPatchText, IsPatchText}
use Rattle.mp_texts.specs.Faults.{IsPatchTextFault}
use Rattle.mp_texts.proofs.Readings.{text_written}
use Rattle.mp_texts.proofs.Short.{answered}
use Rattle.mp_texts.proofs.documents.patch_text.Goals as goal

-- what the operations leave can be read, since the document and the patch can
pub returns : goal.returns
returns c =
    let document = c.args.document.now in
    let json_patch = c.args.json_patch.now in
    let d = value_document c.in_ok-doc.doc in
    let form = value_document c.in_ok-form.form in
    let operations = operations_by value_document c.in_ok-operations.operations.items in
    let end = value_document c.in_ok-patched.patched in
    let written = compact end in
    let back = c.text_unless_longer.ensures.reads_back in
    let readable = c.readings_are_documents.ensures.document in
    let forms = c.in_ok-operations.ensures in
    let within = c.in_ok-patched.ensures.runs in
    let runs = (c.limits_change_nothing.ensures c.args.limit d operations).is_run end within in
    let writable = c.forms_are_writable.ensures form operations (readable json_patch form c.in_ok-form.ensures) forms in
    let good = c.runs_are_readable.ensures d end operations (readable document d c.in_ok-doc.ensures) writable runs in
    let is : IsPatchText document json_patch written = record {
      from = d;
      document_read = c.in_ok-doc.ensures;
      form = form;
      patch_read = c.in_ok-form.ensures;
      operations = operations;
      forms = forms;
      end = end;
      runs = runs;
      text = text_written end written refl back good.within;
    } in
    let light : IsLightPatchText c.args.limit document json_patch written = (is, within) in
    answered c.args.limit c.text_unless_longer.result written (IsLightPatchText c.args.limit document json_patch) (λ fault. IsPatchTextFault c.args.limit fault document json_patch) c.text_unless_longer.ensures.text light (λ long. inr (refl, long)) tt
