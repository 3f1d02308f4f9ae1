-- Replays of texts, and how else their document is reached.
use Rattle.std.proofs.Common.{◌≡◌, ℕ, List, [], ◌∷◌, Some, refl, sym, ap, ◌∙◌, subst}
use Rattle.mp_tree.specs.Document.{Document, IsDocument, IsReadable}
use Rattle.mp_tree.specs.Text.{text as compact}
use Rattle.mp_tree.proofs.Facts.{one_document}
use Rattle.mp_patch.specs.Form.{AreForms, shapes}
use Rattle.mp_patch.specs.Operation.{HaveDocuments, Operation}
use Rattle.mp_patch.specs.Run.{Runs}
use Rattle.mp_merge.specs.Application.{in_turn, merge_patch}
use Rattle.mp_merge.specs.Outcome.{IsOutcome}
use Rattle.mp_merge.specs.Rewriting.{IsRewriting}
use Rattle.mp_texts.specs.Answers.{IsJoinText, IsReplayText, IsTextOf}
use Rattle.mp_texts.specs.Laws.{OneReplayText, ReplayIsMerge, ReplayIsPatch}
use Rattle.mp_texts.specs.Private.LawsBelow.{JoinLaws, ReplayLaws}
use Rattle.mp_texts.proofs.Joins.{join_of_read}
use Rattle.mp_texts.proofs.Readings.{AreRead-cons, one_reading}

-- one text of one document
same_text : {d e : Document} {a b : List ℕ} → IsTextOf d a → IsTextOf e b → d ≡ e → a ≡ b
same_text one other equal = one.is ∙ ap compact equal ∙ sym other.is

text_moved : (d e : Document) (a b : List ℕ) → IsTextOf d a → d ≡ e → b ≡ a → IsTextOf e b
text_moved d e a b text equal same = subst (λ (x : Document). IsTextOf x b) equal (subst (λ (t : List ℕ). IsTextOf d t) (sym same) text)

module _ (joins : JoinLaws) (laws : ReplayLaws) where
  good_outcome : (s : List ℕ) (ps : List (List ℕ)) (a : List ℕ) → (is : IsReplayText s ps a) → IsDocument is.outcome
  good_outcome s ps a is = (joins.readable a is.outcome is.text.read_back).is_document

  outcome_of_read : (s : List ℕ) (ps : List (List ℕ)) (a : List ℕ) (d : Document) (ds : List Document) → (is : IsReplayText s ps a) → is.from ≡ d → is.documents ≡ ds → IsOutcome d ds is.outcome
  outcome_of_read s ps a d ds is from documents =
      subst (λ (x : Document). IsOutcome x ds is.outcome) from (subst (λ (xs : List Document). IsOutcome is.from xs is.outcome) documents is.is_outcome)

  pub one_replay_text : OneReplayText
  one_replay_text s t ps qs a b starts same one other =
      let from : other.from ≡ one.from = one_document t other.from one.from other.start_read (sym starts ∙ one.start_read) in
      let at_one = outcome_of_read s ps a one.from same.documents one refl (one_reading ps one.documents same.documents one.read same.read) in
      let at_other = outcome_of_read t qs b one.from same.other_documents other from (one_reading qs other.documents same.other_documents other.read same.others_read) in
      let equal = laws.replicas_agree one.from same.documents same.other_documents one.outcome other.outcome same.same (good_outcome s ps a one) (good_outcome t qs b other) at_one at_other in
      same_text one.text other.text equal

  -- ---- the outcome is one application of the join

  record Applied (s : List ℕ) (ps : List (List ℕ)) (a j : List ℕ) (one : IsReplayText s ps a) (joined : IsJoinText ps j) : Type 0 where
    start : IsReadable one.from
    join : IsReadable joined.join
    equal : one.outcome ≡ merge_patch (Some one.from) joined.join

  applied : (s : List ℕ) (ps : List (List ℕ)) (a j : List ℕ) (one : IsReplayText s ps a) (joined : IsJoinText ps j) → Applied s ps a j one joined
  applied s ps a j one joined =
      let start = joins.readable s one.from one.start_read in
      let join = joins.readable j joined.join joined.text.read_back in
      let end = merge_patch (Some one.from) joined.join in
      let good = (laws.readable_merge one.from joined.join start join).is_document in
      let outcome = laws.join_outcome one.from one.documents joined.join start.is_document join.is_document (join_of_read ps one.documents j one.read joined) in
      record {
        start = start;
        join = join;
        equal = laws.one_outcome one.from one.documents one.outcome end (good_outcome s ps a one) good one.is_outcome outcome;
      }

  pub replay_is_merge : ReplayIsMerge
  replay_is_merge s ps a j m one joined =
      let known = applied s ps a j one joined in
      let d = one.from in
      let q = joined.join in
      let read = AreRead-cons j [] q [] joined.text.read_back refl in (
        λ is.
            let from = one_document s is.from d is.document_read one.start_read in
            let documents = one_reading (j ∷ []) is.documents (q ∷ []) is.read read in
            is.text.is ∙ ap (λ x. compact (in_turn x is.documents)) from ∙ ap (λ xs. compact (in_turn d xs)) documents ∙ ap compact (sym known.equal) ∙ sym one.text.is,
        λ same. record {
          from = d;
          document_read = one.start_read;
          documents = q ∷ [];
          read = read;
          text = text_moved one.outcome (merge_patch (Some d) q) a m one.text known.equal same;
        },
      )

  -- ---- and the end of its rewriting

  forms_moved : (form : Document) (edits operations : List Operation) → AreForms form operations → form ≡ shapes edits → operations ≡ edits
  forms_moved form edits operations forms same =
      laws.one_reading (shapes edits) operations edits (subst (λ (x : Document). AreForms x operations) same forms) (laws.shapes_are_forms edits)

  run_ends : (d e f : Document) (operations others : List Operation) → IsDocument d → HaveDocuments operations → Runs d operations e → (from : Document) → from ≡ d → others ≡ operations → Runs from others f → f ≡ e
  run_ends d e f operations others good values runs from same_from same_operations also =
      laws.one_end d f e operations good values
      (subst (λ (x : Document). Runs x operations f) same_from (subst (λ (os : List Operation). Runs from os f) same_operations also)) runs

  pub replay_is_patch : ReplayIsPatch
  replay_is_patch s ps a j r p one joined rewritten within =
      let known = applied s ps a j one joined in
      let d = one.from in
      let q = joined.join in
      let operations = rewritten.operations in
      let end = merge_patch (Some d) q in
      let from = one_document s rewritten.from d rewritten.document_read one.start_read in
      let change = one_document j rewritten.change q rewritten.patch_read joined.text.read_back in
      let is_rewriting : IsRewriting d q operations = subst (λ (x : Document). IsRewriting x q operations) from (subst (λ (x : Document). IsRewriting rewritten.from x operations) change rewritten.is_rewriting) in
      let values = laws.rewriting_documents d q operations known.start.is_document known.join.is_document is_rewriting in
      let runs = laws.rewriting_runs d q operations known.start.is_document known.join.is_document known.join.within is_rewriting in
      let read = rewritten.read_back within in (
        λ is.
            let same_from = one_document s is.from d is.document_read one.start_read in
            let form = one_document r is.form (shapes operations) is.patch_read read in
            let same_operations = forms_moved is.form operations is.operations is.forms form in
            let ends = run_ends d end is.end operations is.operations known.start.is_document values runs is.from same_from same_operations is.runs in
            same_text is.text one.text (ends ∙ sym known.equal),
        λ same. record {
          from = d;
          document_read = one.start_read;
          form = shapes operations;
          patch_read = read;
          operations = operations;
          forms = laws.shapes_are_forms operations;
          end = end;
          runs = runs;
          text = text_moved one.outcome end a p one.text known.equal same;
        },
      )
