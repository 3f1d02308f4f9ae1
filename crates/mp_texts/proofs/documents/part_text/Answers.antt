use Rattle.std.proofs.Common.{◌≡◌, ◌∙◌, refl, sym, ap, take, arith}
use Rattle.std.proofs.lemmas.List.{take_all}
use Rattle.mp_tree.specs.Text.{text as compact}
use Rattle.mp_tree.specs.Values.{value_document}
use Rattle.mp_pointer.specs.Part.{part}
use Rattle.mp_texts.specs.Answers.{IsPartText}
use Rattle.mp_texts.specs.Faults.{IsMissingPart, IsPartTextFault}
use Rattle.mp_texts.proofs.Readings.{text_written}
use Rattle.mp_texts.proofs.Short.{answered}
use Rattle.mp_texts.proofs.documents.part_text.Goals as goal

-- a part of what can be read can be read
pub returns-in-Some : goal.returns-in-Some
returns-in-Some c =
    let document = c.args.document.now in
    let pointer = c.args.pointer.now in
    let d = value_document c.in_ok-doc.doc in
    let x = value_document c.in-Some.part.now in
    let written = compact x in
    let back = c.text_unless_longer.ensures.reads_back in
    let tokens = c.in_ok-pointer.pointer in
    let whole : take c.len.result tokens ≡ tokens = take_all c.len.result tokens (omega (arith, c.len.ensures)) in
    let is_part = sym (c.in-Some.ensures ∙ ap (part d) whole) in
    let good = c.parts_are_readable.ensures c.in_ok-pointer.pointer d x (c.readings_are_documents.ensures.document document d c.in_ok-doc.ensures) is_part in
    let is : IsPartText document pointer written = record {
      from = d;
      document_read = c.in_ok-doc.ensures;
      tokens = c.in_ok-pointer.pointer;
      spelled = c.in_ok-pointer.ensures.spelled;
      value = x;
      is_part = is_part;
      text = text_written x written refl back good.within;
    } in
    answered c.args.limit c.text_unless_longer.result written (IsPartText document pointer) (λ fault. IsPartTextFault c.args.limit fault document pointer) c.text_unless_longer.ensures.text is (λ long. (refl, long)) tt

pub returns : goal.returns
returns c =
    let d = value_document c.in_ok-doc.doc in
    let tokens = c.in_ok-pointer.pointer in
    let whole : take c.len.result tokens ≡ tokens = take_all c.len.result tokens (omega (arith, c.len.ensures)) in
    let missing : IsMissingPart c.args.document.now c.args.pointer.now = record {
      from = value_document c.in_ok-doc.doc;
      document_read = c.in_ok-doc.ensures;
      tokens = c.in_ok-pointer.pointer;
      spelled = c.in_ok-pointer.ensures.spelled;
      no_part = sym (c.in-None.ensures ∙ ap (part d) whole);
    } in
    missing
