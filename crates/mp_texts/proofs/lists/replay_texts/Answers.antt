use Rattle.std.proofs.Common.{◌≡◌, List, ap, map, refl, subst, sym}
use Rattle.mp_tree.specs.Document.{Document, depth_limit}
use Rattle.mp_tree.specs.Text.{text as compact}
use Rattle.mp_tree.specs.Values.{value_document}
use Rattle.mp_merge.specs.Lists.{AreNoDeeper}
use Rattle.mp_merge.specs.Outcome.{IsOutcome}
use Rattle.mp_texts.specs.Answers.{IsReplayText}
use Rattle.mp_texts.specs.Faults.{IsReplayTextFault}
use Rattle.mp_texts.specs.Texts.{given}
use Rattle.mp_texts.proofs.Readings.{all_within, text_written}
use Rattle.mp_texts.proofs.Short.{answered}
use Rattle.mp_texts.proofs.lists.replay_texts.Goals as goal

-- the outcome is no deeper than the start and the patches, so it is read back
pub returns : goal.returns
returns c =
    let texts = given c.args.patches.now in
    let d = value_document c.in_ok-start.start in
    let values = c.in_ok-patches.patches.items in
    let read = c.in_ok-patches.ensures in
    let same : map value_document c.as_slice.result.now ≡ map value_document values = ap (map value_document) c.as_slice.ensures.value in
    let outcome = value_document c.in_ok-outcome.outcome in
    let written = compact outcome in
    let back = c.text_unless_longer.ensures.reads_back in
    let readable = c.readings_are_documents.ensures.document in
    let shallow = all_within readable texts (map value_document values) read in
    let start_within = (readable c.args.start.now d c.in_ok-start.ensures).within in
    let within = c.in_ok-outcome.ensures.depth depth_limit start_within (subst (λ (ds : List Document). AreNoDeeper depth_limit ds) (sym same) shallow) in
    let is : IsReplayText c.args.start.now texts written = record {
      from = d;
      start_read = c.in_ok-start.ensures;
      documents = map value_document values;
      read = read;
      outcome = outcome;
      is_outcome = subst (λ (ds : List Document). IsOutcome d ds outcome) same c.in_ok-outcome.ensures.outcome;
      text = text_written outcome written refl back within;
    } in
    answered c.args.limit c.text_unless_longer.result written (IsReplayText c.args.start.now texts) (λ fault. IsReplayTextFault c.args.limit fault c.args.start.now texts) c.text_unless_longer.ensures.text is (λ long. (refl, long)) tt
