use Rattle.std.proofs.Common.{◌≡◌, List, ap, map, refl, subst, sym}
use Rattle.mp_tree.specs.Document.{Document, depth_limit}
use Rattle.mp_tree.specs.Text.{text as compact}
use Rattle.mp_tree.specs.Values.{value_document}
use Rattle.mp_merge.specs.Join.{IsJoin}
use Rattle.mp_merge.specs.Lists.{AreNoDeeper}
use Rattle.mp_texts.specs.Answers.{IsJoinText}
use Rattle.mp_texts.specs.Faults.{IsJoinTextFault}
use Rattle.mp_texts.specs.Texts.{given}
use Rattle.mp_texts.proofs.Readings.{all_within, text_written}
use Rattle.mp_texts.proofs.Short.{answered}
use Rattle.mp_texts.proofs.lists.join_texts.Goals as goal

-- the join is no deeper than the patches, so it is read back
pub returns : goal.returns
returns c =
    let texts = given c.args.patches.now in
    let values = c.in_ok-patches.patches.items in
    let read = c.in_ok-patches.ensures in
    let same : map value_document c.as_slice.result.now ≡ map value_document values = ap (map value_document) c.as_slice.ensures.value in
    let joined = value_document c.in_ok-joined.joined in
    let written = compact joined in
    let back = c.text_unless_longer.ensures.reads_back in
    let shallow = all_within c.readings_are_documents.ensures.document texts (map value_document values) read in
    let within = c.in_ok-joined.ensures.depth depth_limit (subst (λ (ds : List Document). AreNoDeeper depth_limit ds) (sym same) shallow) in
    let is : IsJoinText texts written = record {
      documents = map value_document values;
      read = read;
      join = joined;
      is_join = subst (λ (ds : List Document). IsJoin ds joined) same c.in_ok-joined.ensures.joined;
      text = text_written joined written refl back within;
    } in
    answered c.args.limit c.text_unless_longer.result written (IsJoinText texts) (λ fault. IsJoinTextFault c.args.limit fault texts) c.text_unless_longer.ensures.text is (λ long. (refl, long)) tt
