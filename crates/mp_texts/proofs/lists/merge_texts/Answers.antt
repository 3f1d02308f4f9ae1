use Rattle.std.proofs.Common.{◌≤◌, map, refl, subst, sym}
use Rattle.mp_tree.specs.Document.{Document, depth, depth_limit}
use Rattle.mp_tree.specs.Text.{text as compact}
use Rattle.mp_tree.specs.Values.{value_document}
use Rattle.mp_texts.specs.Answers.{IsMergeText, IsTextOf}
use Rattle.mp_texts.specs.Faults.{IsMergeTextFault}
use Rattle.mp_texts.specs.Texts.{given}
use Rattle.mp_texts.proofs.Merging.{in_turn-readable}
use Rattle.mp_texts.proofs.Readings.{all_readable, text_written}
use Rattle.mp_texts.proofs.Short.{answered}
use Rattle.mp_texts.proofs.lists.merge_texts.Goals as goal

-- what the patches leave can be read, since the document and the patches can
pub returns : goal.returns
returns c =
    let d = value_document c.in_ok-doc.doc in
    let texts = given c.args.patches.now in
    let ps = map value_document c.in_ok-patches.patches.items in
    let readable = c.readings_are_documents.ensures.document in
    let good = in_turn-readable c.merged_is_readable.ensures d ps (readable c.args.document.now d c.in_ok-doc.ensures) (all_readable readable texts ps c.in_ok-patches.ensures) in
    let merged = value_document c.in_ok-merged.merged in
    let written = compact merged in
    let back = c.text_unless_longer.ensures.reads_back in
    let within : depth merged ≤ depth_limit = subst (λ (x : Document). depth x ≤ depth_limit) (sym c.in_ok-merged.ensures) good.within in
    let is : IsMergeText c.args.document.now texts written = record {
      from = d;
      document_read = c.in_ok-doc.ensures;
      documents = ps;
      read = c.in_ok-patches.ensures;
      text = subst (λ (x : Document). IsTextOf x written) c.in_ok-merged.ensures (text_written merged written refl back within);
    } in
    answered c.args.limit c.text_unless_longer.result written (IsMergeText c.args.document.now texts) (λ fault. IsMergeTextFault c.args.limit fault c.args.document.now texts) c.text_unless_longer.ensures.text is (λ long. (refl, long)) tt
