-- The program has an answer to each command and its input bytes.
use Rattle.std.proofs.Common.{◌≡◌, ◌≢◌, ℕ, List, [], ◌∷◌, Some, Result, Ok, Err, string_bytes, inl, inr, refl, ap}
use Rattle.std.proofs.lemmas.List.Elements.{All-head, All-tail}
use Rattle.std.specs.List.{All}
use Rattle.mp_tree.specs.Document.{Document, Items, no_items, item, IsDocument, IsReadable, AreDocuments}
use Rattle.mp_tree.specs.Elements.{list_of}
use Rattle.mp_tree.specs.Laws.{ReadsReadables, FaultsAreOfArrays}
use Rattle.mp_tree.specs.Text.{documents_in}
use Rattle.mp_tree.specs.declared.fault.DocsFault.{DocsFault}
use Rattle.mp_tree.specs.declared.fault.DocsFault.TheVariants.{NotJson, NotWhole}
use Rattle.mp_tree.proofs.Facts.{readable_items, readable_documents}
use Rattle.mp_pointer.specs.declared.fault.PointerFault.{PointerFault}
use Rattle.mp_pointer.specs.declared.fault.PointerFault.TheVariants.{NoSlash, BadTilde}
use Rattle.mp_patch.specs.declared.fault.FormFault.{FormFault}
use Rattle.mp_patch.specs.declared.fault.FormFault.TheVariants.{Form}
use Rattle.mp_pointer.specs.Part.{part}
use Rattle.mp_patch.specs.Operation.{HaveDocuments, Operation}
use Rattle.mp_patch.specs.declared.fault.ApplyFault.TheVariants.{Refused}
use Rattle.mp_cli.specs.Answered.{merge_answer, IsPartAnswer, spelled, misspelled, IsGetAnswerTo, IsRunAnswer, ran, halted, IsPatchAnswer, malformed, formed, IsJoinAnswer, joined, none_joined, join_refused, IsReplayAnswer, replayed, replay_refused, IsRewriteAnswer, rewritten, IsPatchAnswerTo, IsReplayAnswerTo, IsRewriteAnswerTo, IsAnswerTo, IsChecked, IsAnswered}
use Rattle.mp_texts.specs.Lines.{apply_line}
use Rattle.mp_cli.specs.Lines.{Output, line, result_line, conflict_line, form_fault, part_line, spelling_fault, exit_no_result, no_patches, wrong_shape, input_fault}
use Rattle.mp_cli.specs.Laws.{AnswerExists}
use Rattle.mp_cli.specs.Private.LawsBelow.{PointerLaws, PatchLaws, MergeLaws, RewritingLaws}
use Rattle.mp_cli.specs.declared.command.Command.{Command}
use Rattle.mp_cli.specs.declared.command.Command.TheVariants.{Get, Patch, Merge, Join, Replay, Rewrite}

abbrev Has : (Output → Type 0) → Type 0
Has Is = (a : Output) × Is a

-- ---- each error but out of memory has its line

input_line : (fault : DocsFault) → fault ≢ DocsFault.OutOfMemory → Has (λ a. input_fault fault ≡ Some a)
input_line NotJson other = (_, refl)
input_line NotWhole other = (_, refl)
input_line DocsFault.NotAnArray other = (_, refl)
input_line DocsFault.OutOfMemory other = absurd (other refl)

spelling_line : (fault : PointerFault) → fault ≢ PointerFault.OutOfMemory → Has (λ a. spelling_fault fault ≡ Some a)
spelling_line NoSlash other = (_, refl)
spelling_line (BadTilde offset) other = (_, refl)
spelling_line PointerFault.OutOfMemory other = absurd (other refl)

form_line : (fault : FormFault) → fault ≢ FormFault.OutOfMemory → Has (λ a. form_fault fault ≡ Some a)
form_line FormFault.NotAnArray other = (_, refl)
form_line (Form number cause) other = (_, refl)
form_line FormFault.OutOfMemory other = absurd (other refl)

module _ (pointers : PointerLaws) (json : PatchLaws) (merges : MergeLaws) (rewritings : RewritingLaws) where
  some_run : (d : Document) (operations : List Operation) → IsDocument d → HaveDocuments operations → Has (IsRunAnswer d operations)
  some_run d operations good values = elim (json.runs_or_is_refused d operations good values) [
    | inl run ↦ (result_line run.0, ran run.0 run.1 run.2 refl)
    | inr refused ↦ (line (apply_line (Refused refused.0 refused.1)) exit_no_result, halted (Refused refused.0 refused.1) refused.2 refl)
  ]

  some_patch : (d patch : Document) → IsDocument d → IsDocument patch → Has (IsPatchAnswer d patch)
  some_patch d patch good fine = elim (json.form_or_faulty patch) [
    | inl forms ↦ let run = some_run d forms.0 good (json.form_documents patch forms.0 fine forms.1) in (run.0, formed forms.0 forms.1 run.1)
    | inr fault ↦ let reported = form_line fault.0 fault.1 in (reported.0, malformed fault.0 fault.2 reported.1)
  ]

  some_patch_to : (ds : Items) → AreDocuments ds → Has (IsPatchAnswerTo ds)
  some_patch_to no_items good = (wrong_shape, refl)
  some_patch_to (item d no_items) good = (wrong_shape, refl)
  some_patch_to (item d (item patch no_items)) good = some_patch d patch good.0 good.1.0
  some_patch_to (item d (item patch (item e ds))) good = (wrong_shape, refl)

  some_join : (patches : List Document) → All IsDocument patches → Has (IsJoinAnswer patches)
  some_join [] good = (no_patches, none_joined refl refl)
  some_join (p ∷ patches) good = elim (merges.compatible_or_reported (p ∷ patches) good) [
    | inl compatible ↦ let join = (merges.join_exists (p ∷ patches) (λ none. cc) good).1 compatible in (result_line join.0, joined join.0 join.1 join.2 refl)
    | inr reported ↦ (conflict_line reported.0 reported.1 reported.2, join_refused reported.0 reported.1 reported.2 reported.3 refl)
  ]

  some_replay : (d : Document) (patches : List Document) → IsDocument d → All IsDocument patches → Has (IsReplayAnswer d patches)
  some_replay d patches good fine = elim (merges.compatible_or_reported patches fine) [
    | inl compatible ↦ let end = (merges.outcome_exists d patches good fine).1 compatible in (result_line end.0, replayed end.0 end.1 end.2 refl)
    | inr reported ↦ (conflict_line reported.0 reported.1 reported.2, replay_refused reported.0 reported.1 reported.2 reported.3 refl)
  ]

  some_replay_to : (ds : Items) → All IsDocument (list_of ds) → Has (IsReplayAnswerTo ds)
  some_replay_to no_items all = (wrong_shape, refl)
  some_replay_to (item d ps) all = some_replay d (list_of ps) (All-head IsDocument d (list_of ps) all) (All-tail IsDocument d (list_of ps) all)

  some_rewrite : (d patch : Document) → IsDocument patch → Has (IsRewriteAnswer d patch)
  some_rewrite d patch fine = let list = rewritings.exists d patch fine in (_, rewritten list.0 list.1 refl)

  some_rewrite_to : (ds : Items) → AreDocuments ds → Has (IsRewriteAnswerTo ds)
  some_rewrite_to no_items good = (wrong_shape, refl)
  some_rewrite_to (item d no_items) good = (wrong_shape, refl)
  some_rewrite_to (item d (item patch no_items)) good = some_rewrite d patch good.1.0
  some_rewrite_to (item d (item patch (item e ds))) good = (wrong_shape, refl)

  some_part : (d : Document) (pointer : List ℕ) → Has (IsPartAnswer d pointer)
  some_part d pointer = elim (pointers.spells_or_is_faulty pointer) [
    | inl spelling ↦ (part_line (part d spelling.0), spelled spelling.0 spelling.1 refl)
    | inr fault ↦ let reported = spelling_line fault.0 fault.1 in (reported.0, misspelled fault.0 fault.2 reported.1)
  ]

  some_get_to : (pointer : List ℕ) (ds : Items) → Has (IsGetAnswerTo pointer ds)
  some_get_to pointer no_items = (wrong_shape, refl)
  some_get_to pointer (item d no_items) = some_part d pointer
  some_get_to pointer (item d (item e ds)) = (wrong_shape, refl)

  some_answer_to : (command : Command) (ds : Items) → All IsReadable (list_of ds) → Has (IsAnswerTo command ds)
  some_answer_to (Get pointer) ds can = some_get_to (string_bytes pointer) ds
  some_answer_to Patch ds can = some_patch_to ds (readable_items ds can)
  some_answer_to Merge ds can = (merge_answer ds, refl)
  some_answer_to Join ds can = some_join (list_of ds) (readable_documents (list_of ds) can)
  some_answer_to Replay ds can = some_replay_to ds (readable_documents (list_of ds) can)
  some_answer_to Rewrite ds can = some_rewrite_to ds (readable_items ds can)

  some_checked : (command : Command) (r : Result Items DocsFault) → r ≢ Err DocsFault.OutOfMemory → ((ds : Items) → r ≡ Ok ds → All IsReadable (list_of ds)) → Has (IsChecked command r)
  some_checked command (Err fault) given can = input_line fault (λ memory. given (ap Err memory))
  some_checked command (Ok ds) given can = some_answer_to command ds (can ds refl)

  pub answer_exists : ReadsReadables → FaultsAreOfArrays → AnswerExists
  unfolding IsAnswered
  answer_exists reads faults command input = some_checked command (documents_in input) (faults input) (reads input)
