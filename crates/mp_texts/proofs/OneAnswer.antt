-- A call over texts has one answer.
use Rattle.std.proofs.Common.{◌≡◌, ◌≢◌, ◌<◌, ◌≤◌, ℕ, List, [], length, nat_lt, if◌then◌else◌, Option, None, Some, Ok, Err, inl, inr, refl, sym, ap, ◌∙◌, subst}
use Rattle.std.proofs.lemmas.Bool.{lt-ltb, le-ltb}
use Rattle.std.proofs.lemmas.List.Elements.{All-contains, All-nil}
use Rattle.std.specs.List.{All}
use Rattle.mp_tree.specs.Document.{Document, IsDocument}
use Rattle.mp_tree.specs.Text.{document_in, text as compact}
use Rattle.mp_tree.proofs.Facts.{readable_documents}
use Rattle.mp_pointer.specs.Part.{part}
use Rattle.mp_pointer.specs.Spelling.{Tokens, spell, IsPointerFault}
use Rattle.mp_pointer.specs.declared.fault.PointerFault.{PointerFault}
use Rattle.mp_pointer.specs.declared.fault.PointerFault.TheVariants as pointer
use Rattle.mp_patch.specs.Form.{AreForms, IsFormFault, shapes}
use Rattle.mp_patch.specs.Operation.{HaveDocuments, Operation}
use Rattle.mp_patch.specs.Weight.{operations_weight}
use Rattle.mp_patch.specs.Run.{Runs}
use Rattle.mp_patch.specs.Work.{no_limit}
use Rattle.mp_patch.specs.Within.{IsApplyWithinFault, RunsWithin}
use Rattle.mp_patch.specs.declared.fault.ApplyFault.TheVariants as apply
use Rattle.mp_patch.specs.declared.fault.ApplyWithinFault.{ApplyWithinFault}
use Rattle.mp_patch.specs.declared.fault.ApplyWithinFault.TheVariants as stop
use Rattle.mp_patch.specs.declared.fault.FormFault.{FormFault}
use Rattle.mp_patch.specs.declared.fault.FormFault.TheVariants as form
use Rattle.mp_merge.specs.Application.{in_turn}
use Rattle.mp_merge.specs.Join.{IsJoin}
use Rattle.mp_merge.specs.Lists.{HaveSameMembers, PairwiseCompatible}
use Rattle.mp_merge.specs.Outcome.{IsOutcome}
use Rattle.mp_merge.specs.Rewriting.{IsRewriting}
use Rattle.mp_merge.specs.Within.{IsReportedPairWithin, IsTooLargeRewriting}
use Rattle.mp_merge.specs.declared.fault.ListFault.TheVariants as list
use Rattle.mp_texts.specs.Calls.{Call, join_texts, replay_texts, merge_texts, rewrite_text, patch_text, part_text, CallAnswer, returned, conflicting, failed, IsCallAnswer, MayFail, seen_of}
use Rattle.mp_texts.specs.Faults.{texts_fault_of_apply_within}
use Rattle.mp_texts.specs.Laws.{CallHasOneAnswer, FaultsShowTheAnswer}
use Rattle.mp_texts.specs.Private.LawsBelow.{AnswerLaws}
use Rattle.mp_texts.specs.Texts.{AreRead}
use Rattle.mp_texts.specs.declared.fault.TextsFault.{TextsFault}
use Rattle.mp_texts.specs.declared.fault.TextsFault.TheVariants.{Document as NoDocument, Patch, List as OfList, Form, Refused, Pointer, Missing, TooLarge, OutOfMemory}
use Rattle.mp_texts.proofs.Readings.{all_readable}
use Rattle.mp_texts.proofs.Steps.{Step, stops, goes_on, IsOneStep, one_step, Reads, Unread, one_text, UnreadPatch, one_list}

-- ---- the last step of each call, within a limit

-- the text, unless it is too long
abbrev sized : ℕ → List ℕ → CallAnswer
sized limit text = if nat_lt limit (length text) then failed (TooLarge 0) else returned text

short : (limit : ℕ) (text : List ℕ) → length text ≤ limit → returned text ≡ sized limit text
short limit text within = ap (λ b. if b then failed (TooLarge 0) else returned text) (sym (le-ltb limit (length text) within))

long : (limit : ℕ) (text : List ℕ) → limit < length text → failed (TooLarge 0) ≡ sized limit text
long limit text over = ap (λ b. if b then failed (TooLarge 0) else returned text) (sym (lt-ltb limit (length text) over))

data JoinEnd (limit : ℕ) (ds : List Document) (a : CallAnswer) : Type 0 where
  joined : (j : Document) → IsDocument j → IsJoin ds j → a ≡ sized limit (compact j) → JoinEnd limit ds a
  none_joined : ds ≡ [] → a ≡ failed (OfList list.NoPatches) → JoinEnd limit ds a
  not_joined : (first second : ℕ) (places : List Tokens) (total : ℕ) → IsReportedPairWithin limit ds first second places total → a ≡ conflicting first second places total → JoinEnd limit ds a

data ReplayEnd (limit : ℕ) (d : Document) (ds : List Document) (a : CallAnswer) : Type 0 where
  replayed : (e : Document) → IsDocument e → IsOutcome d ds e → a ≡ sized limit (compact e) → ReplayEnd limit d ds a
  not_replayed : (first second : ℕ) (places : List Tokens) (total : ℕ) → IsReportedPairWithin limit ds first second places total → a ≡ conflicting first second places total → ReplayEnd limit d ds a

abbrev MergeEnd : ℕ → Document → List Document → CallAnswer → Type 0
MergeEnd limit d ds a = a ≡ sized limit (compact (in_turn d ds))

data RewriteEnd (limit : ℕ) (d p : Document) (a : CallAnswer) : Type 0 where
  rewritten : (operations : List Operation) → IsRewriting d p operations → (limit ≢ no_limit → operations_weight operations ≤ limit) → a ≡ sized limit (compact (shapes operations)) → RewriteEnd limit d p a
  heavy : (fitting : ℕ) → limit ≢ no_limit → IsTooLargeRewriting limit fitting d p → a ≡ failed (TooLarge fitting) → RewriteEnd limit d p a

data RunEnd (limit : ℕ) (d : Document) (operations : List Operation) (a : CallAnswer) : Type 0 where
  ran : (e : Document) → Runs d operations e → RunsWithin limit d operations e → a ≡ sized limit (compact e) → RunEnd limit d operations a
  stopped_by : (fault : ApplyWithinFault) → fault ≢ stop.OutOfMemory → IsApplyWithinFault limit fault d operations → a ≡ failed (texts_fault_of_apply_within fault) → RunEnd limit d operations a

abbrev part_answer : ℕ → Option Document → CallAnswer
part_answer limit None = failed Missing
part_answer limit (Some x) = sized limit (compact x)

abbrev PartEnd : ℕ → Document → Tokens → CallAnswer → Type 0
PartEnd limit d t a = a ≡ part_answer limit (part d t)

-- ---- the steps before it

abbrev Malformed : Document → TextsFault → Type 0
Malformed p why = (fault : FormFault) × (fault ≢ form.OutOfMemory) × (why ≡ Form fault) × IsFormFault fault p

abbrev Misspelled : List ℕ → TextsFault → Type 0
Misspelled text why = (fault : PointerFault) × (fault ≢ pointer.OutOfMemory) × (why ≡ Pointer fault) × IsPointerFault fault text

abbrev Spells : List ℕ → Tokens → Type 0
Spells text t = text ≡ spell t

abbrev OfPatches : List (List ℕ) → (List Document → CallAnswer → Type 0) → CallAnswer → Type 0
OfPatches ts Next a = Step (List Document) (AreRead ts) (UnreadPatch ts) Next a

abbrev OfDocument : List ℕ → (Document → CallAnswer → Type 0) → CallAnswer → Type 0
OfDocument text Next a = Step Document (Reads text) (Unread NoDocument text) Next a

abbrev OfPatch : List ℕ → (Document → CallAnswer → Type 0) → CallAnswer → Type 0
OfPatch text Next a = Step Document (Reads text) (Unread (λ fault. Patch 0 fault) text) Next a

abbrev FormEnd : ℕ → Document → Document → CallAnswer → Type 0
FormEnd limit d p a = Step (List Operation) (AreForms p) (Malformed p) (RunEnd limit d) a

abbrev PointerEnd : ℕ → List ℕ → Document → CallAnswer → Type 0
PointerEnd limit text d a = Step Tokens (Spells text) (Misspelled text) (PartEnd limit d) a

-- all steps of a call
abbrev Steps : ℕ → Call → CallAnswer → Type 0
Steps limit (join_texts patches) a = OfPatches patches (JoinEnd limit) a
Steps limit (replay_texts start patches) a = OfDocument start (λ d. OfPatches patches (ReplayEnd limit d)) a
Steps limit (merge_texts document patches) a = OfDocument document (λ d. OfPatches patches (MergeEnd limit d)) a
Steps limit (rewrite_text document patch) a = OfDocument document (λ d. OfPatch patch (RewriteEnd limit d)) a
Steps limit (patch_text document json_patch) a = OfDocument document (λ d. OfPatch json_patch (FormEnd limit d)) a
Steps limit (part_text document pointer) a = OfDocument document (PointerEnd limit pointer) a

-- ---- an answer is that of the steps

-- a conflict is not seen as another error
not_seen : (first second : ℕ) (places : List Tokens) (total : ℕ) (why : TextsFault) → conflicting first second places total ≡ failed why → ⊥
not_seen first second places total why e = cc

-- a text that is too long has the number 0
too_long : (limit n : ℕ) (text other : List ℕ) → n ≡ 0 → text ≡ other → limit < length text → failed (TooLarge n) ≡ sized limit other
too_long limit n text other same is over = ap (λ k. failed (TooLarge k)) same ∙ long limit text over ∙ ap (sized limit) is

patch_zero : (text : List ℕ) (n : ℕ) (fault : _) → n ≡ 0 → document_in text ≡ Err fault → Unread (λ f. Patch 0 f) text (Patch n fault)
patch_zero text n fault same unread = (fault, ap (λ k. Patch k fault) same, unread)

module _ (laws : AnswerLaws) (limit : ℕ) where
  document_read : (text : List ℕ) (d : Document) → document_in text ≡ Ok d → IsDocument d
  document_read text d read = (laws.readable text d read).is_document

  documents_read : (ts : List (List ℕ)) (ds : List Document) → AreRead ts ds → All IsDocument ds
  documents_read ts ds read = readable_documents ds (all_readable laws.readable ts ds read)

  join_steps : (ts : List (List ℕ)) (a : CallAnswer) → IsCallAnswer limit (join_texts ts) a → Steps limit (join_texts ts) a
  join_steps ts (returned t) (is, within) = goes_on is.documents is.read (joined is.join (document_read t is.join is.text.read_back) is.is_join (short limit t within ∙ ap (sized limit) is.text.is))
  join_steps ts (conflicting first second places total) is = goes_on is.0 is.1 (not_joined first second places total is.2 refl)
  join_steps ts (failed (NoDocument fault)) is = absurd is.2
  join_steps ts (failed (Patch n fault)) is = stops (Patch n fault) (n, fault, refl, is.2) refl
  join_steps ts (failed (OfList list.NoPatches)) is = goes_on is.2.1 is.2.2 (none_joined is.2.3 refl)
  join_steps ts (failed (OfList (list.ConflictOf first second conflicts))) is = absurd (not_seen first second conflicts.places.items conflicts.total _ is.1)
  join_steps ts (failed (OfList list.OutOfMemory)) is = absurd (is.2.0 refl)
  join_steps ts (failed (Form fault)) is = absurd is.2
  join_steps ts (failed (Refused fault)) is = absurd is.2
  join_steps ts (failed (Pointer fault)) is = absurd is.2
  join_steps ts (failed Missing) is = absurd is.2
  join_steps ts (failed (TooLarge n)) (some, seen, (zero_is, (t, is, over))) =
      goes_on is.documents is.read (joined is.join (document_read t is.join is.text.read_back) is.is_join (too_long limit n t (compact is.join) zero_is is.text.is over))
  join_steps ts (failed OutOfMemory) is = absurd (is.0 refl)

  replay_steps : (start : List ℕ) (ts : List (List ℕ)) (a : CallAnswer) → IsCallAnswer limit (replay_texts start ts) a → Steps limit (replay_texts start ts) a
  replay_steps start ts (returned t) (is, within) =
      goes_on is.from is.start_read (goes_on is.documents is.read (replayed is.outcome (document_read t is.outcome is.text.read_back) is.is_outcome (short limit t within ∙ ap (sized limit) is.text.is)))
  replay_steps start ts (conflicting first second places total) is = goes_on is.0.0 is.0.1 (goes_on is.1.0 is.1.1 (not_replayed first second places total is.1.2 refl))
  replay_steps start ts (failed (NoDocument fault)) is = stops (NoDocument fault) (fault, refl, is.2) refl
  replay_steps start ts (failed (Patch n fault)) is = goes_on is.2.0.0 is.2.0.1 (stops (Patch n fault) (n, fault, refl, is.2.1) refl)
  replay_steps start ts (failed (OfList list.NoPatches)) is = absurd is.2.4
  replay_steps start ts (failed (OfList (list.ConflictOf first second conflicts))) is = absurd (not_seen first second conflicts.places.items conflicts.total _ is.1)
  replay_steps start ts (failed (OfList list.OutOfMemory)) is = absurd (is.2.0 refl)
  replay_steps start ts (failed (Form fault)) is = absurd is.2
  replay_steps start ts (failed (Refused fault)) is = absurd is.2
  replay_steps start ts (failed (Pointer fault)) is = absurd is.2
  replay_steps start ts (failed Missing) is = absurd is.2
  replay_steps start ts (failed (TooLarge n)) (some, seen, (zero_is, (t, is, over))) =
      goes_on is.from is.start_read (goes_on is.documents is.read (replayed is.outcome (document_read t is.outcome is.text.read_back) is.is_outcome (too_long limit n t (compact is.outcome) zero_is is.text.is over)))
  replay_steps start ts (failed OutOfMemory) is = absurd (is.0 refl)

  merge_steps : (document : List ℕ) (ts : List (List ℕ)) (a : CallAnswer) → IsCallAnswer limit (merge_texts document ts) a → Steps limit (merge_texts document ts) a
  merge_steps document ts (returned t) (is, within) = goes_on is.from is.document_read (goes_on is.documents is.read (short limit t within ∙ ap (sized limit) is.text.is))
  merge_steps document ts (conflicting first second places total) is = absurd is
  merge_steps document ts (failed (NoDocument fault)) is = stops (NoDocument fault) (fault, refl, is.2) refl
  merge_steps document ts (failed (Patch n fault)) is = goes_on is.2.0.0 is.2.0.1 (stops (Patch n fault) (n, fault, refl, is.2.1) refl)
  merge_steps document ts (failed (OfList fault)) is = absurd is.2
  merge_steps document ts (failed (Form fault)) is = absurd is.2
  merge_steps document ts (failed (Refused fault)) is = absurd is.2
  merge_steps document ts (failed (Pointer fault)) is = absurd is.2
  merge_steps document ts (failed Missing) is = absurd is.2
  merge_steps document ts (failed (TooLarge n)) (some, seen, (zero_is, (t, is, over))) =
      goes_on is.from is.document_read (goes_on is.documents is.read (too_long limit n t (compact (in_turn is.from is.documents)) zero_is is.text.is over))
  merge_steps document ts (failed OutOfMemory) is = absurd (is.0 refl)

  rewrite_steps : (document patch : List ℕ) (a : CallAnswer) → IsCallAnswer limit (rewrite_text document patch) a → Steps limit (rewrite_text document patch) a
  rewrite_steps document patch (returned t) ((is, light), within) =
      goes_on is.from is.document_read (goes_on is.change is.patch_read (rewritten is.operations is.is_rewriting light (short limit t within ∙ ap (sized limit) is.is)))
  rewrite_steps document patch (conflicting first second places total) is = absurd is
  rewrite_steps document patch (failed (NoDocument fault)) is = stops (NoDocument fault) (fault, refl, is.2) refl
  rewrite_steps document patch (failed (Patch n fault)) is = goes_on is.2.0.0 is.2.0.1 (stops (Patch n fault) (patch_zero patch n fault is.2.1 is.2.2) refl)
  rewrite_steps document patch (failed (OfList fault)) is = absurd is.2
  rewrite_steps document patch (failed (Form fault)) is = absurd is.2
  rewrite_steps document patch (failed (Refused fault)) is = absurd is.2
  rewrite_steps document patch (failed (Pointer fault)) is = absurd is.2
  rewrite_steps document patch (failed Missing) is = absurd is.2
  rewrite_steps document patch (failed (TooLarge n)) (some, seen, inl is) = goes_on is.from is.document_read (goes_on is.change is.patch_read (heavy n is.limited is.too_large refl))
  rewrite_steps document patch (failed (TooLarge n)) (some, seen, inr (zero_is, (t, (is, light), over))) =
      goes_on is.from is.document_read (goes_on is.change is.patch_read (rewritten is.operations is.is_rewriting light (too_long limit n t (compact (shapes is.operations)) zero_is is.is over)))
  rewrite_steps document patch (failed OutOfMemory) is = absurd (is.0 refl)

  patch_steps : (document patch : List ℕ) (a : CallAnswer) → IsCallAnswer limit (patch_text document patch) a → Steps limit (patch_text document patch) a
  patch_steps document patch (returned t) ((is, light), within) =
      goes_on is.from is.document_read (goes_on is.form is.patch_read (goes_on is.operations is.forms (ran is.end is.runs light (short limit t within ∙ ap (sized limit) is.text.is))))
  patch_steps document patch (conflicting first second places total) is = absurd is
  patch_steps document patch (failed (NoDocument fault)) is = stops (NoDocument fault) (fault, refl, is.2) refl
  patch_steps document patch (failed (Patch n fault)) is = goes_on is.2.0.0 is.2.0.1 (stops (Patch n fault) (patch_zero patch n fault is.2.1 is.2.2) refl)
  patch_steps document patch (failed (OfList fault)) is = absurd is.2
  patch_steps document patch (failed (Form fault)) is =
      goes_on is.2.0.0 is.2.0.1 (goes_on is.2.1.1 is.2.1.2 (stops (Form fault) (fault, is.2.1.0, refl, is.2.1.3) refl))
  patch_steps document patch (failed (Refused (apply.Refused k cause))) is =
      let run = is.2 in
      goes_on run.from run.document_read (goes_on run.form run.patch_read (goes_on run.operations run.forms (stopped_by (stop.Refused k cause) (λ e. cc) run.stopped refl)))
  patch_steps document patch (failed (Refused apply.OutOfMemory)) is = absurd is.2.stopped
  patch_steps document patch (failed (Pointer fault)) is = absurd is.2
  patch_steps document patch (failed Missing) is = absurd is.2
  patch_steps document patch (failed (TooLarge n)) (some, seen, inl run) =
      goes_on run.from run.document_read (goes_on run.form run.patch_read (goes_on run.operations run.forms (stopped_by (stop.TooLarge n) (λ e. cc) run.stopped refl)))
  patch_steps document patch (failed (TooLarge n)) (some, seen, inr (zero_is, (t, (is, light), over))) =
      goes_on is.from is.document_read (goes_on is.form is.patch_read (goes_on is.operations is.forms (ran is.end is.runs light (too_long limit n t (compact is.end) zero_is is.text.is over))))
  patch_steps document patch (failed OutOfMemory) is = absurd (is.0 refl)

  part_steps : (document text : List ℕ) (a : CallAnswer) → IsCallAnswer limit (part_text document text) a → Steps limit (part_text document text) a
  part_steps document text (returned t) (is, within) =
      goes_on is.from is.document_read (goes_on is.tokens is.spelled (short limit t within ∙ ap (sized limit) is.text.is ∙ ap (part_answer limit) (sym is.is_part)))
  part_steps document text (conflicting first second places total) is = absurd is
  part_steps document text (failed (NoDocument fault)) is = stops (NoDocument fault) (fault, refl, is.2) refl
  part_steps document text (failed (Patch n fault)) is = absurd is.2
  part_steps document text (failed (OfList fault)) is = absurd is.2
  part_steps document text (failed (Form fault)) is = absurd is.2
  part_steps document text (failed (Refused fault)) is = absurd is.2
  part_steps document text (failed (Pointer fault)) is = goes_on is.2.0.0 is.2.0.1 (stops (Pointer fault) (fault, is.2.1, refl, is.2.2) refl)
  part_steps document text (failed Missing) is = let missing = is.2 in goes_on missing.from missing.document_read (goes_on missing.tokens missing.spelled (ap (part_answer limit) (sym missing.no_part)))
  part_steps document text (failed (TooLarge n)) (some, seen, (zero_is, (t, is, over))) =
      goes_on is.from is.document_read (goes_on is.tokens is.spelled (too_long limit n t (compact is.value) zero_is is.text.is over ∙ ap (part_answer limit) (sym is.is_part)))
  part_steps document text (failed OutOfMemory) is = absurd (is.0 refl)

  -- ---- the steps have one answer

  one_form : (p : Document) → IsOneStep (List Operation) (AreForms p) (Malformed p)
  one_form p = record {
    found = λ operations others one other. laws.one_reading p operations others one other;
    fault = λ why also (fault, some, is, one) (other, more, was, two). is ∙ ap Form (laws.one_form_fault p fault other some more one two) ∙ sym was;
    apart = λ operations why forms (fault, some, is, one). some (laws.form_unfaulty p operations fault forms one);
  }

  one_pointer : (text : List ℕ) → IsOneStep Tokens (Spells text) (Misspelled text)
  one_pointer text = record {
    found = λ t u one other. laws.one_spelling t u (sym one ∙ other);
    fault = λ why also (fault, some, is, one) (other, more, was, two). is ∙ ap Pointer (laws.one_pointer_fault text fault other some more one two) ∙ sym was;
    apart = λ t why spelled (fault, some, is, one). some (laws.spelling_unfaulty t fault (subst (IsPointerFault fault) spelled one));
  }

  join_is_of_some : (ds : List Document) (j : Document) → IsJoin ds j → ds ≢ []
  join_is_of_some ds j is none = laws.none_has_no_join j (subst (λ (ps : List Document). IsJoin ps j) none is)

  none_compatible : PairwiseCompatible []
  none_compatible p q at there = absurd (All-contains (λ r. ⊥) [] p (All-nil (λ r. ⊥)) at)

  reported_is_of_some : (ds : List Document) (first second : ℕ) (places : List Tokens) (total : ℕ) → IsReportedPairWithin limit ds first second places total → ds ≢ []
  reported_is_of_some ds first second places total reported none =
      laws.reported_is_incompatible ds first second reported.all reported.pair (subst PairwiseCompatible (sym none) none_compatible)

  joined_or_reported : (ds : List Document) (j : Document) (first second : ℕ) (places : List Tokens) (total : ℕ) → All IsDocument ds → IsDocument j → IsJoin ds j → IsReportedPairWithin limit ds first second places total → ⊥
  joined_or_reported ds j first second places total all good is reported =
      laws.reported_is_incompatible ds first second reported.all reported.pair ((laws.join_exists ds (join_is_of_some ds j is) all).0 (j, good, is))

  replayed_or_reported : (d : Document) (ds : List Document) (e : Document) (first second : ℕ) (places : List Tokens) (total : ℕ) → IsDocument d → All IsDocument ds → IsDocument e → IsOutcome d ds e
      → IsReportedPairWithin limit ds first second places total → ⊥
  replayed_or_reported d ds e first second places total start all good is reported =
      laws.reported_is_incompatible ds first second reported.all reported.pair ((laws.outcome_exists d ds start all).0 (e, good, is))

  one_conflict : (ds : List Document) (first second least most : ℕ) (places others : List Tokens) (total number : ℕ) → IsReportedPairWithin limit ds first second places total
      → IsReportedPairWithin limit ds least most others number → conflicting first second places total ≡ conflicting least most others number
  one_conflict ds first second least most places others total number one two =
      let same = laws.one_report_within limit ds first second least most places others total number one two in
      ap (λ (n : ℕ). conflicting n second places total) same.0 ∙ ap (λ (n : ℕ). conflicting least n places total) same.1 ∙ ap (λ ws. conflicting least most ws total) same.2 ∙ ap (conflicting least most others) same.3

  same_members : (ds : List Document) → HaveSameMembers ds ds
  same_members ds p = (λ at. at, λ at. at)

  one_join_end : (ds : List Document) (a b : CallAnswer) → All IsDocument ds → JoinEnd limit ds a → JoinEnd limit ds b → a ≡ b
  one_join_end ds a b all (joined i good one is) (joined j other two was) = is ∙ ap (λ d. sized limit (compact d)) (laws.one_join ds ds i j (same_members ds) good other one two) ∙ sym was
  one_join_end ds a b all (joined i good one is) (none_joined none was) = absurd (join_is_of_some ds i one none)
  one_join_end ds a b all (joined i good one is) (not_joined first second places total two was) = absurd (joined_or_reported ds i first second places total all good one two)
  one_join_end ds a b all (none_joined none is) (joined j other two was) = absurd (join_is_of_some ds j two none)
  one_join_end ds a b all (none_joined none is) (none_joined also was) = is ∙ sym was
  one_join_end ds a b all (none_joined none is) (not_joined first second places total two was) = absurd (reported_is_of_some ds first second places total two none)
  one_join_end ds a b all (not_joined first second places total one is) (joined j other two was) = absurd (joined_or_reported ds j first second places total all other two one)
  one_join_end ds a b all (not_joined first second places total one is) (none_joined none was) = absurd (reported_is_of_some ds first second places total one none)
  one_join_end ds a b all (not_joined first second places total one is) (not_joined least most others number two was) =
      is ∙ one_conflict ds first second least most places others total number one two ∙ sym was

  one_replay_end : (d : Document) (ds : List Document) (a b : CallAnswer) → IsDocument d → All IsDocument ds → ReplayEnd limit d ds a → ReplayEnd limit d ds b → a ≡ b
  one_replay_end d ds a b start all (replayed e good one is) (replayed f other two was) = is ∙ ap (λ x. sized limit (compact x)) (laws.one_outcome d ds e f good other one two) ∙ sym was
  one_replay_end d ds a b start all (replayed e good one is) (not_replayed first second places total two was) = absurd (replayed_or_reported d ds e first second places total start all good one two)
  one_replay_end d ds a b start all (not_replayed first second places total one is) (replayed f other two was) = absurd (replayed_or_reported d ds f first second places total start all other two one)
  one_replay_end d ds a b start all (not_replayed first second places total one is) (not_replayed least most others number two was) =
      is ∙ one_conflict ds first second least most places others total number one two ∙ sym was

  one_rewrite_end : (d p : Document) (a b : CallAnswer) → RewriteEnd limit d p a → RewriteEnd limit d p b → a ≡ b
  one_rewrite_end d p a b (rewritten operations one light is) (rewritten others two small was) = is ∙ ap (λ os. sized limit (compact (shapes os))) (laws.one_rewriting d p operations others one two) ∙ sym was
  one_rewrite_end d p a b (rewritten operations one light is) (heavy fitting limited two was) = absurd (laws.not_too_large limit fitting d p operations one (light limited) two)
  one_rewrite_end d p a b (heavy fitting limited one is) (rewritten operations two light was) = absurd (laws.not_too_large limit fitting d p operations two (light limited) one)
  one_rewrite_end d p a b (heavy fitting limited one is) (heavy other also two was) = is ∙ ap (λ n. failed (TooLarge n)) (laws.one_fitting limit fitting other d p one two) ∙ sym was

  one_run_end : (d : Document) (operations : List Operation) (a b : CallAnswer) → IsDocument d → HaveDocuments operations → RunEnd limit d operations a → RunEnd limit d operations b → a ≡ b
  one_run_end d operations a b good values (ran e runs steps is) (ran f more also was) = is ∙ ap (λ x. sized limit (compact x)) (laws.one_end d e f operations good values runs more) ∙ sym was
  one_run_end d operations a b good values (ran e runs steps is) (stopped_by fault some stopped was) = absurd (some (laws.unstopped limit d e operations fault good values steps stopped))
  one_run_end d operations a b good values (stopped_by fault some stopped is) (ran f runs steps was) = absurd (some (laws.unstopped limit d f operations fault good values steps stopped))
  one_run_end d operations a b good values (stopped_by fault some stopped is) (stopped_by other more also was) =
      is ∙ ap (λ f. failed (texts_fault_of_apply_within f)) (laws.one_stop limit d operations fault other good values some more stopped also) ∙ sym was

  one_form_end : (d p : Document) (a b : CallAnswer) → IsDocument d → IsDocument p → FormEnd limit d p a → FormEnd limit d p b → a ≡ b
  one_form_end d p a b good fine =
      one_step (List Operation) (AreForms p) (Malformed p) (RunEnd limit d) (one_form p)
      (λ operations a b forms. one_run_end d operations a b good (laws.form_documents p operations fine forms)) a b

  one_of_patches : (ts : List (List ℕ)) (Next : List Document → CallAnswer → Type 0) → ((ds : List Document) (a b : CallAnswer) → AreRead ts ds → Next ds a → Next ds b → a ≡ b)
      → (a b : CallAnswer) → OfPatches ts Next a → OfPatches ts Next b → a ≡ b
  one_of_patches ts Next next a b = one_step (List Document) (AreRead ts) (UnreadPatch ts) Next (one_list ts) next a b

  one_of_document : (text : List ℕ) (Next : Document → CallAnswer → Type 0) → ((d : Document) (a b : CallAnswer) → IsDocument d → Next d a → Next d b → a ≡ b)
      → (a b : CallAnswer) → OfDocument text Next a → OfDocument text Next b → a ≡ b
  one_of_document text Next next a b =
      one_step Document (Reads text) (Unread NoDocument text) Next (one_text NoDocument text) (λ d a b read. next d a b (document_read text d read)) a b

  one_of_patch : (text : List ℕ) (Next : Document → CallAnswer → Type 0) → ((p : Document) (a b : CallAnswer) → IsDocument p → Next p a → Next p b → a ≡ b)
      → (a b : CallAnswer) → OfPatch text Next a → OfPatch text Next b → a ≡ b
  one_of_patch text Next next a b =
      one_step Document (Reads text) (Unread (λ fault. Patch 0 fault) text) Next (one_text (λ fault. Patch 0 fault) text) (λ p a b read. next p a b (document_read text p read)) a b

  one_of_pointer : (text : List ℕ) (d : Document) (a b : CallAnswer) → PointerEnd limit text d a → PointerEnd limit text d b → a ≡ b
  one_of_pointer text d a b = one_step Tokens (Spells text) (Misspelled text) (PartEnd limit d) (one_pointer text) (λ t a b spelled is was. is ∙ sym was) a b

  one_of_steps : (call : Call) (a b : CallAnswer) → Steps limit call a → Steps limit call b → a ≡ b
  one_of_steps (join_texts patches) a b =
      one_of_patches patches (JoinEnd limit) (λ ds a b read. one_join_end ds a b (documents_read patches ds read)) a b
  one_of_steps (replay_texts start patches) a b =
      one_of_document start (λ d. OfPatches patches (ReplayEnd limit d))
      (λ d a b good. one_of_patches patches (ReplayEnd limit d) (λ ds a b read. one_replay_end d ds a b good (documents_read patches ds read)) a b) a b
  one_of_steps (merge_texts document patches) a b =
      one_of_document document (λ d. OfPatches patches (MergeEnd limit d))
      (λ d a b good. one_of_patches patches (MergeEnd limit d) (λ ds a b read is was. is ∙ sym was) a b) a b
  one_of_steps (rewrite_text document patch) a b =
      one_of_document document (λ d. OfPatch patch (RewriteEnd limit d))
      (λ d a b good. one_of_patch patch (RewriteEnd limit d) (λ p a b fine. one_rewrite_end d p a b) a b) a b
  one_of_steps (patch_text document json_patch) a b =
      one_of_document document (λ d. OfPatch json_patch (FormEnd limit d))
      (λ d a b good. one_of_patch json_patch (FormEnd limit d) (λ p a b fine. one_form_end d p a b good fine) a b) a b
  one_of_steps (part_text document pointer) a b =
      one_of_document document (PointerEnd limit pointer) (λ d a b good. one_of_pointer pointer d a b) a b

  steps_of : (call : Call) (a : CallAnswer) → IsCallAnswer limit call a → Steps limit call a
  steps_of (join_texts patches) a is = join_steps patches a is
  steps_of (replay_texts start patches) a is = replay_steps start patches a is
  steps_of (merge_texts document patches) a is = merge_steps document patches a is
  steps_of (rewrite_text document patch) a is = rewrite_steps document patch a is
  steps_of (patch_text document json_patch) a is = patch_steps document json_patch a is
  steps_of (part_text document pointer) a is = part_steps document pointer a is

pub one_answer : AnswerLaws → CallHasOneAnswer
one_answer laws limit call a b is was = one_of_steps laws limit call a b (steps_of laws limit call a is) (steps_of laws limit call b was)

-- ---- what is seen of an error is an answer

conflict_seen : (limit : ℕ) (call : Call) (first second : ℕ) (conflicts : _) → MayFail limit call (OfList (list.ConflictOf first second conflicts)) → IsCallAnswer limit call (seen_of (OfList (list.ConflictOf first second conflicts)))
conflict_seen limit (join_texts patches) first second conflicts is = (is.1, is.2, is.3)
conflict_seen limit (replay_texts start patches) first second conflicts is = (is.1, (is.2, is.3, is.4))
conflict_seen limit (merge_texts document patches) first second conflicts is = absurd is
conflict_seen limit (rewrite_text document patch) first second conflicts is = absurd is
conflict_seen limit (patch_text document json_patch) first second conflicts is = absurd is
conflict_seen limit (part_text document pointer) first second conflicts is = absurd is

pub faults_show_the_answer : FaultsShowTheAnswer
faults_show_the_answer limit call (OfList (list.ConflictOf first second conflicts)) is memory = conflict_seen limit call first second conflicts is
faults_show_the_answer limit call (OfList list.NoPatches) is memory = (memory, refl, is)
faults_show_the_answer limit call (OfList list.OutOfMemory) is memory = (memory, refl, is)
faults_show_the_answer limit call (NoDocument fault) is memory = (memory, refl, is)
faults_show_the_answer limit call (Patch n fault) is memory = (memory, refl, is)
faults_show_the_answer limit call (Form fault) is memory = (memory, refl, is)
faults_show_the_answer limit call (Refused fault) is memory = (memory, refl, is)
faults_show_the_answer limit call (Pointer fault) is memory = (memory, refl, is)
faults_show_the_answer limit call Missing is memory = (memory, refl, is)
faults_show_the_answer limit call (TooLarge n) is memory = (memory, refl, is)
faults_show_the_answer limit call OutOfMemory is memory = (memory, refl, is)
