use Rattle.std.proofs.Common.{ℕ, subst, sym}
use Rattle.std.specs.Str.{IsValidUpTo}
use Rattle.mp_tree.specs.View.{document as meaning_of}
use Rattle.mp_texts.specs.Faults.{IsRead}
use Rattle.mp_c.specs.Answered.{IsPart}
use Rattle.mp_c.proofs.Exports.{no_document, not_utf8_replied, part_replied, renamed}
use Rattle.mp_c.proofs.documents.mergejoin_get.Goals as goal
use Rattle.mp_c.proofs.documents.mergejoin_get.Goals.{in-Ok-read_doc, in-Err-read_doc}

pub returns-in-Ok : goal.returns-in-Ok
returns-in-Ok c =
    let document = c.args.document.now in
    let pointer = c.args.pointer.now in
    let (same, utf8) = c.in-Ok.ensures.cases in
    part_replied c.args.limit c.part_text-part.result document pointer c.in-Ok.pointer.now c.report.result c.args.out.now c.report.new.out same utf8 c.part_text-part.ensures c.report.ensures

-- a document that is not one is reported first
pub returns-after-read_doc : goal.returns-after-read_doc
returns-after-read_doc c =
    let document = c.args.document.now in
    let pointer = c.args.pointer.now in
    let before = c.args.out.now in
    let reply = c.match-read_doc.result in
    let after = c.match-read_doc.out in
    elim c.match-read_doc.branch [
      | in-Ok-read_doc w ↦
          let read : IsRead document = (meaning_of w.in-Ok-read_doc.field-0, w.in-Ok-read_doc.ensures.document) in
          let report = w.report_not_utf8 in
          let valid = subst (λ (n : ℕ). IsValidUpTo pointer n) (sym w.valid_up_to.ensures) c.in-Err.ensures.cases.1 in
          renamed (IsPart c.args.limit document pointer) reply report.result before after report.new.out w.result-is w.out-is
          (not_utf8_replied c.args.limit document pointer w.valid_up_to.result report.result before report.new.out (read, valid) report.ensures)
      | in-Err-read_doc w ↦
          let arm = w.in-Err-read_doc in
          let report = w.report_unread in
          renamed (IsPart c.args.limit document pointer) reply report.result before after report.new.out w.result-is w.out-is
          (no_document c.args.limit arm.why document pointer report.result before report.new.out arm.ensures.faults report.ensures)
    ]
