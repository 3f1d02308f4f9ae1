-- What the program prints of lists of patches, and what it answers to what it printed.
use Rattle.std.proofs.Common.{◌≡◌, ◌≢◌, ℕ, List, [], ◌∷◌, Some, Ok, refl, sym, ap, ◌∙◌, subst}
use Rattle.std.proofs.lemmas.List.{append_cancel_right}
use Rattle.std.proofs.lemmas.List.Elements.{All-cons, All-contains, All-contains_itself, All-head, All-nil, All-tail}
use Rattle.std.specs.List.{All, Contains}
use Rattle.mp_tree.specs.Arrays.{IsArrayOf}
use Rattle.mp_tree.specs.Document.{Document, no_items, item, IsDocument, IsReadable}
use Rattle.mp_tree.specs.Elements.{list_of}
use Rattle.mp_tree.specs.Look.{Path}
use Rattle.mp_tree.specs.Text.{documents_in, text as compact}
use Rattle.mp_tree.proofs.Facts.{readable_documents}
use Rattle.mp_patch.specs.Form.{shapes}
use Rattle.mp_patch.specs.Operation.{HaveDocuments, Operation}
use Rattle.mp_patch.specs.Run.{Runs}
use Rattle.mp_patch.specs.declared.fault.ApplyFault.TheVariants.{Refused, OutOfMemory}
use Rattle.mp_merge.specs.Application.{merge_patch}
use Rattle.mp_merge.specs.Join.{IsJoin}
use Rattle.mp_merge.specs.Lists.{HaveSameMembers, IsReportedPair, PairwiseCompatible}
use Rattle.mp_merge.specs.Outcome.{IsOutcome}
use Rattle.mp_merge.specs.Rewriting.{IsRewriting}
use Rattle.mp_cli.proofs.OneAnswer.{form_has_memory}
use Rattle.mp_cli.specs.Answered.{IsRunAnswer, ran, halted, IsPatchAnswer, malformed, formed, IsJoinAnswer, joined, none_joined, join_refused, IsReplayAnswer, replayed, replay_refused, IsRewriteAnswer, rewritten, IsChecked, IsAnswered}
use Rattle.mp_cli.specs.Lines.{newline, Output, conflict_line, line, no_patches, result_line, exit_no_result, exit_result}
use Rattle.mp_cli.specs.Laws.{ReplicasPrintTheSame, JoinsPrintTheSame, ReportsPair, HaveAClash, ClashesAreReported, JoinReportsClashes, JoinPrintedIsRead, RewritingPrintedIsRead}
use Rattle.mp_cli.specs.Private.LawsBelow.{TextLaws, PatchLaws, MergeLaws, RewritingLaws}
use Rattle.mp_cli.specs.declared.command.Command.TheVariants.{Patch, Merge, Join, Replay, Rewrite}
use Rattle.mp_cli.proofs.ReadInputs.{joined_are_compatible, replayed_are_compatible}

-- ---- lines

-- a line with the status of a result is no line without one
result_is_one : (printed : List ℕ) (a : Output) → a.status ≡ exit_no_result → line printed exit_result ≡ a → ⊥
result_is_one printed a none same = let no : exit_result ≡ exit_no_result = ap (λ (b : Output). b.status) same ∙ none in cc

-- what was printed of a result is its text
printed-is : (printed : List ℕ) (d : Document) → line printed exit_result ≡ result_line d → printed ≡ compact d
printed-is printed d same = append_cancel_right printed (compact d) (newline ∷ []) (ap (λ (a : Output). a.text) same)

-- two texts in an array
two_documents : (d e : Document) (bytes : List ℕ) → TextLaws → IsReadable d → IsReadable e → IsArrayOf (compact d ∷ compact e ∷ []) bytes → documents_in bytes ≡ Ok (item d (item e no_items))
two_documents d e bytes texts first second array = texts.arrays (d ∷ e ∷ []) bytes (All-cons IsReadable d (e ∷ []) first (All-cons IsReadable e [] second (All-nil IsReadable))) array

module _ (texts : TextLaws) (merges : MergeLaws) where
  -- ---- replicas print the same

  same_compatible : (ps qs : List Document) → HaveSameMembers ps qs → PairwiseCompatible ps → PairwiseCompatible qs
  same_compatible ps qs same free p q one two = free p q ((same p).1 one) ((same q).1 two)

  -- if no two patches clash, the answer is the outcome
  record IsReplayed (start : Document) (patches : List Document) (a : Output) : Type 0 where
    end : Document
    good : IsDocument end
    outcome : IsOutcome start patches end
    is : a ≡ result_line end

  replay_gives : (start : Document) (patches : List Document) (a : Output) → PairwiseCompatible patches → IsReplayAnswer start patches a → IsReplayed start patches a
  replay_gives start patches a free (replayed e good outcome is) = record { end = e; good = good; outcome = outcome; is = is }
  replay_gives start patches a free (replay_refused first second places reported is) = absurd (merges.reported_is_incompatible patches first second places reported free)

  -- and the join
  record IsJoined (patches : List Document) (a : Output) : Type 0 where
    join : Document
    good : IsDocument join
    is_join : IsJoin patches join
    is : a ≡ result_line join

  join_gives : (patches : List Document) (a : Output) → patches ≢ [] → PairwiseCompatible patches → IsJoinAnswer patches a → IsJoined patches a
  join_gives patches a some free (joined j good is_join is) = record { join = j; good = good; is_join = is_join; is = is }
  join_gives patches a some free (none_joined none is) = absurd (some none)
  join_gives patches a some free (join_refused first second places reported is) = absurd (merges.reported_is_incompatible patches first second places reported free)

  same_some : (ps qs : List Document) → HaveSameMembers ps qs → ps ≢ [] → qs ≢ []
  same_some [] qs same some none = some refl
  same_some (p ∷ ps) qs same some none =
      absurd (All-contains (λ r. ⊥) [] p (All-nil (λ r. ⊥)) (subst (λ (rs : List Document). Contains rs p) none ((same p).0 (All-head (Contains (p ∷ ps)) p ps (All-contains_itself (p ∷ ps))))))

  pub replicas_print_the_same : ReplicasPrintTheSame
  unfolding IsAnswered
  replicas_print_the_same here there a b inputs one two =
      let ps = list_of inputs.ps in
      let qs = list_of inputs.qs in
      let start = inputs.start in
      let both = inputs.replicas in
      let at_here = replay_gives start ps a both.compatible (subst (λ r. IsChecked Replay r a) inputs.reads_here one) in
      let at_there = replay_gives start qs b (same_compatible ps qs both.same both.compatible) (subst (λ r. IsChecked Replay r b) inputs.reads_there two) in
      let same = merges.replicas_agree start ps qs at_here.end at_there.end both.same at_here.good at_there.good at_here.outcome at_there.outcome in
      (at_here.is ∙ ap result_line same ∙ sym at_there.is, ap (λ (c : Output). c.status) at_here.is)

  pub joins_print_the_same : JoinsPrintTheSame
  unfolding IsAnswered
  joins_print_the_same here there ps qs a b reads_here reads_there both one two =
      let at_here = join_gives (list_of ps) a both.some both.compatible (subst (λ r. IsChecked Join r a) reads_here one) in
      let at_there = join_gives (list_of qs) b (same_some (list_of ps) (list_of qs) both.same both.some) (same_compatible (list_of ps) (list_of qs) both.same both.compatible) (subst (λ r. IsChecked Join r b) reads_there two) in
      let same = merges.one_join (list_of ps) (list_of qs) at_here.join at_there.join both.same at_here.good at_there.good at_here.is_join at_there.is_join in
      (at_here.is ∙ ap result_line same ∙ sym at_there.is, ap (λ (c : Output). c.status) at_here.is)

  -- ---- clashes are reported

  clash_is_none : (patches : List Document) → HaveAClash patches → PairwiseCompatible patches → ⊥
  clash_is_none patches (p, q, w, one, two, clash) free = free p q one two w clash

  reports : (patches : List Document) (a : Output) (first second : ℕ) (places : List Path) → IsReportedPair patches first second places → a ≡ conflict_line first second places → ReportsPair patches a × (a.status ≡ exit_no_result)
  reports patches a first second places reported is = (record { first = first; second = second; places = places; reported = reported; is = is }, ap (λ (c : Output). c.status) is)

  replay_reports : (start : Document) (patches : List Document) (a : Output) → IsDocument start → All IsDocument patches → HaveAClash patches → IsReplayAnswer start patches a → ReportsPair patches a × (a.status ≡ exit_no_result)
  replay_reports start patches a good all clash (replayed e fine outcome is) = absurd (clash_is_none patches clash (replayed_are_compatible merges start patches e good all fine outcome))
  replay_reports start patches a good all clash (replay_refused first second places reported is) = reports patches a first second places reported is

  join_reports : (patches : List Document) (a : Output) → All IsDocument patches → HaveAClash patches → IsJoinAnswer patches a → ReportsPair patches a × (a.status ≡ exit_no_result)
  join_reports patches a all clash (joined j good is_join is) = absurd (clash_is_none patches clash (joined_are_compatible merges patches j all good is_join))
  join_reports patches a all (p, q, w, one, two, clash) (none_joined none is) =
      absurd (All-contains (λ r. ⊥) [] p (All-nil (λ r. ⊥)) (subst (λ (ps : List Document). Contains ps p) none one))
  join_reports patches a all clash (join_refused first second places reported is) = reports patches a first second places reported is

  pub conflicts_are_reported : ClashesAreReported
  unfolding IsAnswered
  conflicts_are_reported input start ps a reads clash answered =
      let all = readable_documents (list_of (item start ps)) (texts.readable input (item start ps) reads) in
      replay_reports start (list_of ps) a (All-head IsDocument start (list_of ps) all) (All-tail IsDocument start (list_of ps) all) clash (subst (λ r. IsChecked Replay r a) reads answered)

  pub join_reports_clashes : JoinReportsClashes
  unfolding IsAnswered
  join_reports_clashes input ps a reads clash answered =
      join_reports (list_of ps) a (readable_documents (list_of ps) (texts.readable input ps reads)) clash (subst (λ r. IsChecked Join r a) reads answered)

  -- ---- the join that was printed is the join that is read

  record IsPrintedJoin (patches : List Document) (printed : List ℕ) : Type 0 where
    join : Document
    good : IsDocument join
    is_join : IsJoin patches join
    is : printed ≡ compact join

  printed_join : (patches : List Document) (printed : List ℕ) → IsJoinAnswer patches (line printed exit_result) → IsPrintedJoin patches printed
  printed_join patches printed (joined j good is_join is) = record { join = j; good = good; is_join = is_join; is = printed-is printed j is }
  printed_join patches printed (none_joined none is) = absurd (result_is_one printed no_patches refl is)
  printed_join patches printed (join_refused first second places reported is) = absurd (result_is_one printed (conflict_line first second places) refl is)

  pub join_printed_is_read : JoinPrintedIsRead
  unfolding IsAnswered
  join_printed_is_read input patches array printed start ps a b c reads reads_list answered is_array at_list at_merge at_replay =
      let can = texts.readable input (item start ps) reads in
      let good_start = All-head IsReadable start (list_of ps) can in
      let can_patches = All-tail IsReadable start (list_of ps) can in
      let all = readable_documents (list_of ps) can_patches in
      let found = printed_join (list_of ps) printed (subst (λ r. IsChecked Join r (line printed exit_result)) reads_list answered) in
      let j = found.join in
      let good_join = merges.readable_join (list_of ps) j found.good can_patches found.is_join in
      let reads_array = two_documents start j array texts good_start good_join (subst (λ (s : List ℕ). IsArrayOf (compact start ∷ s ∷ []) array) found.is is_array) in
      let end = merge_patch (Some start) j in
      let good_end = (merges.readable_merge start j good_start good_join).is_document in
      let outcome = merges.join_outcome start (list_of ps) j good_start.is_document found.good found.is_join in
      let replayed_list = replay_gives start (list_of ps) a (joined_are_compatible merges (list_of ps) j all found.good found.is_join) (subst (λ r. IsChecked Replay r a) reads at_list) in
      let a_is : a ≡ result_line end = replayed_list.is ∙ ap result_line (merges.one_outcome start (list_of ps) replayed_list.end end replayed_list.good good_end replayed_list.outcome outcome) in
      let b_is : b ≡ result_line end = subst (λ r. IsChecked Merge r b) reads_array at_merge in
      let one = merges.application start j good_start.is_document found.good in
      let alone = replayed_are_compatible merges start (j ∷ []) end good_start.is_document (All-cons IsDocument j [] found.good (All-nil IsDocument)) good_end one in
      let replayed_join = replay_gives start (j ∷ []) c alone (subst (λ r. IsChecked Replay r c) reads_array at_replay) in
      let c_is : c ≡ result_line end = replayed_join.is ∙ ap result_line (merges.one_outcome start (j ∷ []) replayed_join.end end replayed_join.good good_end replayed_join.outcome one) in
      (b_is ∙ sym a_is, c_is ∙ sym a_is)

  -- ---- the rewriting that was printed is the rewriting that is read

  module _ (json : PatchLaws) (rewritings : RewritingLaws) where
    rewriting_printed : (d p : Document) (operations : List Operation) (printed : List ℕ) → IsRewriting d p operations → IsRewriteAnswer d p (line printed exit_result) → printed ≡ compact (shapes operations)
    rewriting_printed d p operations printed is (rewritten others was same) = printed-is printed (shapes others) same ∙ ap (λ os. compact (shapes os)) (rewritings.one d p others operations was is)

    run_gives : (d e : Document) (operations : List Operation) (a : Output) → IsDocument d → HaveDocuments operations → Runs d operations e → IsRunAnswer d operations a → a ≡ result_line e
    run_gives d e operations a good values runs (ran f fine also is) = is ∙ ap result_line (json.one_end d f e operations good values also runs)
    run_gives d e operations a good values runs (halted OutOfMemory refused is) = absurd (cc)
    run_gives d e operations a good values runs (halted (Refused k cause) refused is) = absurd (json.unrefused d e operations k cause good values runs refused)

    patch_gives : (d e : Document) (operations : List Operation) (a : Output) → IsDocument d → HaveDocuments operations → Runs d operations e → IsPatchAnswer d (shapes operations) a → a ≡ result_line e
    patch_gives d e operations a good values runs (malformed fault faulty is) = absurd (form_has_memory fault a is (json.form_unfaulty (shapes operations) operations fault (json.shapes operations) faulty))
    patch_gives d e operations a good values runs (formed others forms run) =
        let same = json.one_reading (shapes operations) others operations forms (json.shapes operations) in
        run_gives d e operations a good values runs (subst (λ (os : List Operation). IsRunAnswer d os a) same run)

    pub rewriting_printed_is_read : RewritingPrintedIsRead
    unfolding IsAnswered
    rewriting_printed_is_read input array printed d p operations a b reads answered is within is_array at_merge at_patch =
        let can = texts.readable input (item d (item p no_items)) reads in
        let good = All-head IsReadable d (p ∷ []) can in
        let fine = All-head IsReadable p [] (All-tail IsReadable d (p ∷ []) can) in
        let text_is = rewriting_printed d p operations printed is (subst (λ r. IsChecked Rewrite r (line printed exit_result)) reads answered) in
        let readable = json.readable_shapes operations (rewritings.writable d p operations good fine is) within in
        let reads_array = two_documents d (shapes operations) array texts good readable (subst (λ (s : List ℕ). IsArrayOf (compact d ∷ s ∷ []) array) text_is is_array) in
        let end = merge_patch (Some d) p in
        let values = rewritings.documents d p operations good.is_document fine.is_document is in
        let runs = rewritings.runs d p operations good.is_document fine.is_document fine.within is in
        let a_is : a ≡ result_line end = subst (λ r. IsChecked Merge r a) reads at_merge in
        patch_gives d end operations b good.is_document values runs (subst (λ r. IsChecked Patch r b) reads_array at_patch) ∙ sym a_is
