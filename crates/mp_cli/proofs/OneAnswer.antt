-- The program has one answer to a command and its input bytes.
use Rattle.std.proofs.Common.{◌≡◌, ◌≢◌, ℕ, List, Some, Result, Ok, Err, string_bytes, refl, sym, ap, ◌∙◌, subst}
use Rattle.std.proofs.lemmas.List.Elements.{All-head, All-tail}
use Rattle.std.specs.List.{All}
use Rattle.mp_tree.specs.Document.{Document, Items, no_items, item, IsDocument, IsReadable, AreDocuments}
use Rattle.mp_tree.specs.Elements.{list_of}
use Rattle.mp_tree.specs.Laws.{ReadsReadables}
use Rattle.mp_tree.specs.Look.{Path}
use Rattle.mp_tree.specs.Text.{documents_in}
use Rattle.mp_tree.specs.declared.fault.DocsFault.{DocsFault}
use Rattle.mp_tree.proofs.Facts.{readable_items, readable_documents}
use Rattle.mp_pointer.specs.Part.{part}
use Rattle.mp_pointer.specs.Spelling.{IsPointerFault}
use Rattle.mp_pointer.specs.declared.fault.PointerFault.{PointerFault}
use Rattle.mp_patch.specs.Form.{shapes}
use Rattle.mp_patch.specs.Operation.{HaveDocuments, Operation}
use Rattle.mp_patch.specs.Run.{Runs, IsApplyFault}
use Rattle.mp_patch.specs.declared.fault.ApplyFault.{ApplyFault}
use Rattle.mp_patch.specs.declared.fault.ApplyFault.TheVariants.{Refused, OutOfMemory}
use Rattle.mp_patch.specs.declared.fault.FormFault.{FormFault}
use Rattle.mp_merge.specs.Join.{IsJoin}
use Rattle.mp_merge.specs.Lists.{HaveSameMembers, IsReportedPair}
use Rattle.mp_merge.specs.Outcome.{IsOutcome}
use Rattle.mp_cli.specs.Answered.{IsPartAnswer, spelled, misspelled, IsGetAnswerTo, IsRunAnswer, ran, halted, IsPatchAnswer, malformed, formed, IsJoinAnswer, joined, none_joined, join_refused, IsReplayAnswer, replayed, replay_refused, IsRewriteAnswer, rewritten, IsPatchAnswerTo, IsReplayAnswerTo, IsRewriteAnswerTo, IsAnswerTo, IsChecked, IsAnswered}
use Rattle.mp_cli.specs.Lines.{Output, result_line, conflict_line, form_fault, part_line, apply_fault, spelling_fault}
use Rattle.mp_cli.specs.Laws.{HasOneAnswer}
use Rattle.mp_cli.specs.Private.LawsBelow.{PointerLaws, PatchLaws, MergeLaws, RewritingLaws}
use Rattle.mp_cli.specs.declared.command.Command.{Command}
use Rattle.mp_cli.specs.declared.command.Command.TheVariants.{Get, Patch, Merge, Join, Replay, Rewrite}
use Rattle.mp_cli.proofs.ReadInputs.{join_is_of_some, joined_are_compatible, replayed_are_compatible, reported_are_some}

-- ---- an error has one line at most, and out of memory has none

one_line : {a b : Output} → Some a ≡ Some b → a ≡ b
one_line same = cc

pub form_has_memory : (fault : FormFault) (a : Output) → form_fault fault ≡ Some a → fault ≢ FormFault.OutOfMemory
form_has_memory fault a is memory = let none : form_fault FormFault.OutOfMemory ≡ Some a = subst (λ f. form_fault f ≡ Some a) memory is in cc

spelling_has_memory : (fault : PointerFault) (a : Output) → spelling_fault fault ≡ Some a → fault ≢ PointerFault.OutOfMemory
spelling_has_memory fault a is memory = let none : spelling_fault PointerFault.OutOfMemory ≡ Some a = subst (λ f. spelling_fault f ≡ Some a) memory is in cc

module _ (pointers : PointerLaws) (json : PatchLaws) (merges : MergeLaws) (rewritings : RewritingLaws) where
  -- ---- `patch`

  module _ (d : Document) (operations : List Operation) (a b : Output) (good : IsDocument d) (values : HaveDocuments operations) where
    not_both : (e : Document) (fault : ApplyFault) (c : Output) → Runs d operations e → IsApplyFault fault d operations → apply_fault fault ≡ Some c → ⊥
    not_both e OutOfMemory c runs refused is = cc
    not_both e (Refused k cause) c runs refused is = json.unrefused d e operations k cause good values runs refused

    one_fault : (fault other : ApplyFault) → IsApplyFault fault d operations → IsApplyFault other d operations → apply_fault fault ≡ Some a → apply_fault other ≡ Some b → a ≡ b
    one_fault OutOfMemory other one two is was = absurd (cc)
    one_fault (Refused k cause) OutOfMemory one two is was = absurd (cc)
    one_fault (Refused k cause) (Refused n other) one two is was =
        let same = json.one_refusal d operations k n cause other good values one two in
        one_line (sym is ∙ ap (λ i. apply_fault (Refused i cause)) same.0 ∙ ap (λ c. apply_fault (Refused n c)) same.1 ∙ was)

    one_run : IsRunAnswer d operations a → IsRunAnswer d operations b → a ≡ b
    one_run (ran e fine runs is) (ran f also more was) = is ∙ ap result_line (json.one_end d e f operations good values runs more) ∙ sym was
    one_run (ran e fine runs is) (halted fault refused was) = absurd (not_both e fault b runs refused was)
    one_run (halted fault refused is) (ran f also more was) = absurd (not_both f fault a more refused is)
    one_run (halted fault refused is) (halted other again was) = one_fault fault other refused again is was

  one_patch : (d patch : Document) (a b : Output) → IsDocument d → IsDocument patch → IsPatchAnswer d patch a → IsPatchAnswer d patch b → a ≡ b
  one_patch d patch a b good fine (malformed fault one is) (malformed other two was) = one_line (sym is ∙ ap form_fault (json.one_fault patch fault other (form_has_memory fault a is) (form_has_memory other b was) one two) ∙ was)
  one_patch d patch a b good fine (malformed fault one is) (formed operations forms runs) = absurd (form_has_memory fault a is (json.form_unfaulty patch operations fault forms one))
  one_patch d patch a b good fine (formed operations forms runs) (malformed fault one is) = absurd (form_has_memory fault b is (json.form_unfaulty patch operations fault forms one))
  one_patch d patch a b good fine (formed operations forms runs) (formed others also more) =
      let same = json.one_reading patch others operations also forms in
      one_run d operations a b good (json.form_documents patch operations fine forms) runs (subst (λ (os : List Operation). IsRunAnswer d os b) same more)

  one_patch_to : (ds : Items) (a b : Output) → AreDocuments ds → IsPatchAnswerTo ds a → IsPatchAnswerTo ds b → a ≡ b
  one_patch_to no_items a b good is was = is ∙ sym was
  one_patch_to (item d no_items) a b good is was = is ∙ sym was
  one_patch_to (item d (item patch no_items)) a b good is was = one_patch d patch a b good.0 good.1.0 is was
  one_patch_to (item d (item patch (item e ds))) a b good is was = is ∙ sym was

  -- ---- lists of merge patches

  one_conflict_line : (patches : List Document) (first second other_first other_second : ℕ) (places others : List Path) (a b : Output) → IsReportedPair patches first second places
      → a ≡ conflict_line first second places → IsReportedPair patches other_first other_second others → b ≡ conflict_line other_first other_second others → a ≡ b
  one_conflict_line patches first second other_first other_second places others a b one is two was =
      let same = merges.one_reported_pair patches first second other_first other_second places others one two in
      let alike : conflict_line first second places ≡ conflict_line other_first other_second others =
      ap (λ n. conflict_line n second places) same.0 ∙ ap (λ n. conflict_line other_first n places) same.1 ∙ ap (conflict_line other_first other_second) same.2 in
      is ∙ alike ∙ sym was

  joined_or_reported : (patches : List Document) (j : Document) (first second : ℕ) (places : List Path) → All IsDocument patches → IsDocument j → IsJoin patches j → IsReportedPair patches first second places → ⊥
  joined_or_reported patches j first second places all good joins reported = merges.reported_is_incompatible patches first second places reported (joined_are_compatible merges patches j all good joins)

  replayed_or_reported : (d : Document) (patches : List Document) (e : Document) (first second : ℕ) (places : List Path) → IsDocument d → All IsDocument patches → IsDocument e → IsOutcome d patches e → IsReportedPair patches first second places → ⊥
  replayed_or_reported d patches e first second places start all good outcome reported = merges.reported_is_incompatible patches first second places reported (replayed_are_compatible merges d patches e start all good outcome)

  same_members : (ps : List Document) → HaveSameMembers ps ps
  same_members ps p = (λ at. at, λ at. at)

  one_join_answer : (patches : List Document) (a b : Output) → All IsDocument patches → IsJoinAnswer patches a → IsJoinAnswer patches b → a ≡ b
  one_join_answer patches a b all (joined i good one is) (joined j other two was) = is ∙ ap result_line (merges.one_join patches patches i j (same_members patches) good other one two) ∙ sym was
  one_join_answer patches a b all (joined i good one is) (none_joined none was) = absurd (join_is_of_some merges patches i one none)
  one_join_answer patches a b all (joined i good one is) (join_refused first second places two was) = absurd (joined_or_reported patches i first second places all good one two)
  one_join_answer patches a b all (none_joined none is) (joined j other two was) = absurd (join_is_of_some merges patches j two none)
  one_join_answer patches a b all (none_joined none is) (none_joined also was) = is ∙ sym was
  one_join_answer patches a b all (none_joined none is) (join_refused first second places two was) = absurd (reported_are_some merges patches first second places two none)
  one_join_answer patches a b all (join_refused first second places one is) (joined j other two was) = absurd (joined_or_reported patches j first second places all other two one)
  one_join_answer patches a b all (join_refused first second places one is) (none_joined none was) = absurd (reported_are_some merges patches first second places one none)
  one_join_answer patches a b all (join_refused first second places one is) (join_refused least most others two was) =
      one_conflict_line patches first second least most places others a b one is two was

  one_replay : (d : Document) (patches : List Document) (a b : Output) → IsDocument d → All IsDocument patches → IsReplayAnswer d patches a → IsReplayAnswer d patches b → a ≡ b
  one_replay d patches a b start all (replayed e good one is) (replayed f other two was) = is ∙ ap result_line (merges.one_outcome d patches e f good other one two) ∙ sym was
  one_replay d patches a b start all (replayed e good one is) (replay_refused first second places two was) = absurd (replayed_or_reported d patches e first second places start all good one two)
  one_replay d patches a b start all (replay_refused first second places one is) (replayed f other two was) = absurd (replayed_or_reported d patches f first second places start all other two one)
  one_replay d patches a b start all (replay_refused first second places one is) (replay_refused least most others two was) =
      one_conflict_line patches first second least most places others a b one is two was

  one_replay_to : (ds : Items) (a b : Output) → All IsDocument (list_of ds) → IsReplayAnswerTo ds a → IsReplayAnswerTo ds b → a ≡ b
  one_replay_to no_items a b all is was = is ∙ sym was
  one_replay_to (item d ps) a b all is was = one_replay d (list_of ps) a b (All-head IsDocument d (list_of ps) all) (All-tail IsDocument d (list_of ps) all) is was

  -- ---- `rewrite`

  one_rewrite : (d patch : Document) (a b : Output) → IsRewriteAnswer d patch a → IsRewriteAnswer d patch b → a ≡ b
  one_rewrite d patch a b (rewritten operations one is) (rewritten others two was) = is ∙ ap (λ os. result_line (shapes os)) (rewritings.one d patch operations others one two) ∙ sym was

  one_rewrite_to : (ds : Items) (a b : Output) → IsRewriteAnswerTo ds a → IsRewriteAnswerTo ds b → a ≡ b
  one_rewrite_to no_items a b is was = is ∙ sym was
  one_rewrite_to (item d no_items) a b is was = is ∙ sym was
  one_rewrite_to (item d (item patch no_items)) a b is was = one_rewrite d patch a b is was
  one_rewrite_to (item d (item patch (item e ds))) a b is was = is ∙ sym was

  -- ---- `get`

  one_part : (d : Document) (pointer : List ℕ) (a b : Output) → IsPartAnswer d pointer a → IsPartAnswer d pointer b → a ≡ b
  one_part d pointer a b (spelled t one is) (spelled u two was) = is ∙ ap (λ tokens. part_line (part d tokens)) (pointers.one_spelling t u (sym one ∙ two)) ∙ sym was
  one_part d pointer a b (spelled t one is) (misspelled fault two was) = absurd (spelling_has_memory fault b was (pointers.spelling_unfaulty t fault (subst (IsPointerFault fault) one two)))
  one_part d pointer a b (misspelled fault one is) (spelled u two was) = absurd (spelling_has_memory fault a is (pointers.spelling_unfaulty u fault (subst (IsPointerFault fault) two one)))
  one_part d pointer a b (misspelled fault one is) (misspelled other two was) =
      one_line (sym is ∙ ap spelling_fault (pointers.one_fault pointer fault other (spelling_has_memory fault a is) (spelling_has_memory other b was) one two) ∙ was)

  one_get_to : (pointer : List ℕ) (ds : Items) (a b : Output) → IsGetAnswerTo pointer ds a → IsGetAnswerTo pointer ds b → a ≡ b
  one_get_to pointer no_items a b is was = is ∙ sym was
  one_get_to pointer (item d no_items) a b is was = one_part d pointer a b is was
  one_get_to pointer (item d (item e ds)) a b is was = is ∙ sym was

  -- ---- all commands

  one_answer_to : (command : Command) (ds : Items) (a b : Output) → All IsReadable (list_of ds) → IsAnswerTo command ds a → IsAnswerTo command ds b → a ≡ b
  one_answer_to (Get pointer) ds a b can is was = one_get_to (string_bytes pointer) ds a b is was
  one_answer_to Patch ds a b can is was = one_patch_to ds a b (readable_items ds can) is was
  one_answer_to Merge ds a b can is was = is ∙ sym was
  one_answer_to Join ds a b can is was = one_join_answer (list_of ds) a b (readable_documents (list_of ds) can) is was
  one_answer_to Replay ds a b can is was = one_replay_to ds a b (readable_documents (list_of ds) can) is was
  one_answer_to Rewrite ds a b can is was = one_rewrite_to ds a b is was

  one_checked : (command : Command) (r : Result Items DocsFault) (a b : Output) → ((ds : Items) → r ≡ Ok ds → All IsReadable (list_of ds)) → IsChecked command r a → IsChecked command r b → a ≡ b
  one_checked command (Err fault) a b can is was = one_line (sym is ∙ was)
  one_checked command (Ok ds) a b can is was = one_answer_to command ds a b (can ds refl) is was

  pub one_answer : ReadsReadables → HasOneAnswer
  unfolding IsAnswered
  one_answer reads command input a b is was = one_checked command (documents_in input) a b (reads input) is was
