-- A call over texts has an answer.
use Rattle.std.proofs.Common.{◌≡◌, ◌≢◌, ◌⊎◌, ◌≤◌, ◌+◌, ℕ, suc, length, List, [], ◌∷◌, Option, None, Some, Result, Ok, Err, take, inl, inr, refl}
use Rattle.std.proofs.Math.Decide.{dec_le}
use Rattle.std.proofs.lemmas.Bool.Decides.{eqb_tells}
use Rattle.std.proofs.Math.Nat.{lt_of_not-le}
use Rattle.std.specs.List.{All}
use Rattle.mp_tree.specs.Document.{Document, IsDocument, IsReadable, depth_limit}
use Rattle.mp_tree.specs.Text.{document_in, text as compact}
use Rattle.mp_tree.specs.declared.fault.ReadFault.{ReadFault}
use Rattle.mp_tree.proofs.Facts.{document_in-read}
use Rattle.mp_pointer.specs.Part.{part}
use Rattle.mp_pointer.specs.Spelling.{Tokens, spell}
use Rattle.mp_patch.specs.Form.{AreForms, deepest, shapes}
use Rattle.mp_patch.specs.Operation.{HaveDocuments, Operation}
use Rattle.mp_patch.specs.Run.{Runs}
use Rattle.mp_patch.specs.Weight.{operations_weight}
use Rattle.mp_patch.specs.Work.{no_limit}
use Rattle.mp_patch.specs.Within.{RunsWithin}
use Rattle.mp_patch.specs.declared.fault.ApplyWithinFault.{ApplyWithinFault}
use Rattle.mp_patch.specs.declared.fault.ApplyWithinFault.TheVariants as stop
use Rattle.mp_merge.specs.Application.{in_turn}
use Rattle.mp_merge.specs.Rewriting.{IsRewriting}
use Rattle.mp_merge.specs.Within.{IsTooLargeRewriting}
use Rattle.mp_merge.specs.declared.fault.ListFault.TheVariants as list
use Rattle.mp_texts.specs.Answers.{IsJoinText, IsLightPatchText, IsLightRewriteText, IsMergeText, IsPartText, IsPatchText, IsReplayText, IsRewriteText, IsTooLong, Within}
use Rattle.mp_texts.specs.Calls.{Call, join_texts, replay_texts, merge_texts, rewrite_text, patch_text, part_text, CallAnswer, returned, conflicting, failed, IsCallAnswer, MayFail, MayReturn}
use Rattle.mp_texts.specs.Faults.{IsHeavyRewriting, IsMissingPart, IsRead, IsRunFault, IsRunTextFault, texts_fault_of_apply_within}
use Rattle.mp_texts.specs.Laws.{CallHasAnswer}
use Rattle.mp_texts.specs.Private.LawsBelow.{ExistenceLaws}
use Rattle.mp_texts.specs.Texts.{AreRead, IsFirstUnread}
use Rattle.mp_texts.specs.declared.fault.TextsFault.{TextsFault}
use Rattle.mp_texts.specs.declared.fault.TextsFault.TheVariants.{Document as NoDocument, Patch, List as OfList, Form, Refused, Pointer, Missing, TooLarge, OutOfMemory}
use Rattle.mp_texts.proofs.Joins.{documents_of, join_text}
use Rattle.mp_texts.proofs.Limited.{stop_reported}
use Rattle.mp_texts.proofs.Merging.{in_turn-readable}
use Rattle.mp_texts.proofs.Readings.{AreRead-cons, all_readable, text_of_readable}

-- ---- a text is read, or it is not

abbrev ReadOrNot : List ℕ → Type 0
ReadOrNot text = IsRead text ⊎ ((fault : ReadFault) × (document_in text ≡ Err fault))

read_or_not : (text : List ℕ) → ReadOrNot text
read_or_not text = by (document_in text) refl
  where
    by : (r : Result Document ReadFault) → document_in text ≡ r → ReadOrNot text
    by (Ok d) is = inl (d, is)
    by (Err fault) is = inr (fault, is)

abbrev FirstUnread : List (List ℕ) → Type 0
FirstUnread ts = (n : ℕ) × (fault : ReadFault) × IsFirstUnread ts n fault

abbrev AllRead : List (List ℕ) → Type 0
AllRead ts = (ds : List Document) × AreRead ts ds

all_or_first : (ts : List (List ℕ)) → AllRead ts ⊎ FirstUnread ts
all_or_first [] = inl ([], refl)
all_or_first (t ∷ ts) = by (read_or_not t) (all_or_first ts)
  where
    by : ReadOrNot t → AllRead ts ⊎ FirstUnread ts → AllRead (t ∷ ts) ⊎ FirstUnread (t ∷ ts)
    by (inr (fault, unread)) rest = inr (0, fault, record { before = []; read = refl; text = t; is = refl; unread = unread })
    by (inl (d, read)) (inl (ds, are)) = inl (d ∷ ds, AreRead-cons t ts d ds read are)
    by (inl (d, read)) (inr (n, fault, first)) =
        inr (suc n, fault, record { before = d ∷ first.before; read = AreRead-cons t (take n ts) d first.before read first.read; text = first.text; is = first.is; unread = first.unread })

abbrev Has : ℕ → Call → Type 0
Has limit call = (a : CallAnswer) × IsCallAnswer limit call a

-- the text, unless it is too long
sized : (limit : ℕ) (call : Call) (IsAnswer : List ℕ → Type 0) (text : List ℕ) → IsAnswer text → (Within limit IsAnswer text → MayReturn limit call text) → (IsTooLong limit IsAnswer → MayFail limit call (TooLarge 0)) → Has limit call
sized limit call IsAnswer text is returns fails = elim (dec_le (length text) limit) [
  | yes within ↦ (returned text, returns (is, within))
  | no over ↦ (failed (TooLarge 0), (λ e. cc, refl, fails (text, is, lt_of_not-le over)))
]

-- the operations lead to an end, within the limit if there is one, or they have a fault
abbrev EndsOrFails : ℕ → Document → List Operation → Type 0
EndsOrFails limit d operations =
    ((e : Document) × Runs d operations e × RunsWithin limit d operations e)
    ⊎ ((fault : TextsFault) × (fault ≢ OutOfMemory) × IsRunFault limit fault d operations)

some_fault : (fault : ApplyWithinFault) → fault ≢ stop.OutOfMemory → texts_fault_of_apply_within fault ≢ OutOfMemory
some_fault (stop.Refused k cause) some = λ e. cc
some_fault (stop.TooLarge k) some = λ e. cc
some_fault stop.OutOfMemory some = absurd (some refl)

module _ (laws : ExistenceLaws) (limit : ℕ) where
  readable : (text : List ℕ) (d : Document) → document_in text ≡ Ok d → IsReadable d
  readable text d read = laws.joins.readable text d read

  readables : (ts : List (List ℕ)) (ds : List Document) → AreRead ts ds → All IsReadable ds
  readables ts ds read = all_readable laws.joins.readable ts ds read

  -- ---- lists of merge patches

  join_of_read : (ts : List (List ℕ)) (ds : List Document) → AreRead ts ds → Has limit (join_texts ts)
  join_of_read [] ds read = (failed (OfList list.NoPatches), (λ e. cc, refl, (λ e. cc, [], refl, refl)))
  join_of_read (t ∷ ts) ds read = elim (laws.compatible_or_reported ds (documents_of laws.joins (t ∷ ts) ds read)) [
    | inl free ↦ let joined = join_text laws.joins (t ∷ ts) ds read (λ none. cc) free in sized limit (join_texts (t ∷ ts)) (IsJoinText (t ∷ ts)) joined.0 joined.1 (λ is. is) (λ long. (refl, long))
    | inr (first, second, all, reported) ↦ let within = laws.reported_within limit ds first second all reported in (conflicting first second within.0 within.1, (ds, read, within.2))
  ]

  some_join : (ts : List (List ℕ)) → Has limit (join_texts ts)
  some_join ts = elim (all_or_first ts) [
    | inl (ds, read) ↦ join_of_read ts ds read
    | inr (n, fault, first) ↦ (failed (Patch n fault), (λ e. cc, refl, first))
  ]

  replay_of_read : (start : List ℕ) (ts : List (List ℕ)) (d : Document) (ds : List Document) → document_in start ≡ Ok d → AreRead ts ds → Has limit (replay_texts start ts)
  replay_of_read start ts d ds start_read read = elim (laws.compatible_or_reported ds (documents_of laws.joins ts ds read)) [
    | inl free ↦
        let good = readable start d start_read in
        let end = in_turn d ds in
        let is : IsReplayText start ts (compact end) = record {
          from = d;
          start_read = start_read;
          documents = ds;
          read = read;
          outcome = end;
          is_outcome = laws.applied_in_turn d ds good.is_document (documents_of laws.joins ts ds read) free;
          text = text_of_readable laws.joins.reads_back end (compact end) (in_turn-readable laws.readable_merge d ds good (readables ts ds read)) refl;
        } in
        sized limit (replay_texts start ts) (IsReplayText start ts) (compact end) is (λ is. is) (λ long. (refl, long))
    | inr (first, second, all, reported) ↦
        let within = laws.reported_within limit ds first second all reported in
        (conflicting first second within.0 within.1, ((d, start_read), (ds, read, within.2)))
  ]

  some_replay : (start : List ℕ) (ts : List (List ℕ)) → Has limit (replay_texts start ts)
  some_replay start ts = elim (read_or_not start) [
    | inr (fault, unread) ↦ (failed (NoDocument fault), (λ e. cc, refl, unread))
    | inl (d, start_read) ↦ elim (all_or_first ts) [
      | inl (ds, read) ↦ replay_of_read start ts d ds start_read read
      | inr (n, fault, first) ↦ (failed (Patch n fault), (λ e. cc, refl, ((d, start_read), first)))
    ]
  ]

  merge_of_read : (document : List ℕ) (ts : List (List ℕ)) (d : Document) (ds : List Document) → document_in document ≡ Ok d → AreRead ts ds → Has limit (merge_texts document ts)
  merge_of_read document ts d ds document_read read =
      let end = in_turn d ds in
      let is : IsMergeText document ts (compact end) = record {
        from = d;
        document_read = document_read;
        documents = ds;
        read = read;
        text = text_of_readable laws.joins.reads_back end (compact end) (in_turn-readable laws.readable_merge d ds (readable document d document_read) (readables ts ds read)) refl;
      } in
      sized limit (merge_texts document ts) (IsMergeText document ts) (compact end) is (λ is. is) (λ long. (refl, long))

  some_merge : (document : List ℕ) (ts : List (List ℕ)) → Has limit (merge_texts document ts)
  some_merge document ts = elim (read_or_not document) [
    | inr (fault, unread) ↦ (failed (NoDocument fault), (λ e. cc, refl, unread))
    | inl (d, document_read) ↦ elim (all_or_first ts) [
      | inl (ds, read) ↦ merge_of_read document ts d ds document_read read
      | inr (n, fault, first) ↦ (failed (Patch n fault), (λ e. cc, refl, ((d, document_read), first)))
    ]
  ]

  -- ---- one document

  -- the operations weigh at most the limit, if there is one, or there is one and so many fit
  light_or_heavy : (d p : Document) (operations : List Operation) → IsRewriting d p operations
      → (limit ≢ no_limit → operations_weight operations ≤ limit) ⊎ ((fitting : ℕ) × (limit ≢ no_limit) × IsTooLargeRewriting limit fitting d p)
  light_or_heavy d p operations rewriting = elim (eqb_tells limit no_limit) [
    | inl (tested, none) ↦ inl (λ limited. absurd (limited none))
    | inr (tested, limited) ↦ elim (laws.within_or_too_large limit d p operations rewriting) [
      | inl light ↦ inl (λ also. light)
      | inr (fitting, heavy) ↦ inr (fitting, limited, heavy)
    ]
  ]

  rewrite_of_read : (document patch : List ℕ) (d p : Document) → document_in document ≡ Ok d → document_in patch ≡ Ok p → Has limit (rewrite_text document patch)
  rewrite_of_read document patch d p document_read patch_read =
      let fine = readable patch p patch_read in
      let (operations, rewriting) = laws.rewriting_exists d p fine.is_document in
      let writable = laws.writable_rewriting d p operations (readable document d document_read) fine rewriting in
      let answer = compact (shapes operations) in
      let back : 2 + deepest operations ≤ depth_limit → document_in answer ≡ Ok (shapes operations) = λ within.
      let can = laws.readable_shapes operations writable within in
      document_in-read answer (shapes operations) (laws.joins.reads_back (shapes operations) can) can.within in
      let is : IsRewriteText document patch answer = record {
        from = d;
        document_read = document_read;
        change = p;
        patch_read = patch_read;
        operations = operations;
        is_rewriting = rewriting;
        is = refl;
        read_back = back;
      } in
      elim (light_or_heavy d p operations rewriting) [
        | inl light ↦ sized limit (rewrite_text document patch) (IsLightRewriteText limit document patch) answer (is, light) (λ is. is) (λ long. inr (refl, long))
        | inr (fitting, limited, heavy) ↦
            let too_large : IsHeavyRewriting limit fitting document patch = record { from = d; document_read = document_read; change = p; patch_read = patch_read; limited = limited; too_large = heavy } in
            (failed (TooLarge fitting), (λ e. cc, refl, inl too_large))
      ]

  some_rewrite : (document patch : List ℕ) → Has limit (rewrite_text document patch)
  some_rewrite document patch = elim (read_or_not document) [
    | inr (fault, unread) ↦ (failed (NoDocument fault), (λ e. cc, refl, unread))
    | inl (d, document_read) ↦ elim (read_or_not patch) [
      | inl (p, patch_read) ↦ rewrite_of_read document patch d p document_read patch_read
      | inr (fault, unread) ↦ (failed (Patch 0 fault), (λ e. cc, refl, ((d, document_read), refl, unread)))
    ]
  ]

  ends_or_fails : (d : Document) (operations : List Operation) → IsDocument d → HaveDocuments operations → EndsOrFails limit d operations
  ends_or_fails d operations good values = elim (laws.runs_or_stops limit d operations good values) [
    | inl (e, ends, steps) ↦ inl (e, (laws.limits_change_nothing limit d operations).is_run e steps, steps)
    | inr (fault, some, stopped) ↦ inr (texts_fault_of_apply_within fault, some_fault fault some, stop_reported limit d operations fault stopped)
  ]

  answer_of_fault : (document json_patch : List ℕ) (fault : TextsFault) → fault ≢ OutOfMemory → IsRunTextFault limit fault document json_patch → Has limit (patch_text document json_patch)
  answer_of_fault document json_patch (Refused fault) some is = (failed (Refused fault), (λ e. cc, refl, is))
  answer_of_fault document json_patch (TooLarge k) some is = (failed (TooLarge k), (λ e. cc, refl, inl is))
  answer_of_fault document json_patch OutOfMemory some is = absurd (some refl)
  answer_of_fault document json_patch (NoDocument why) some is = absurd is.stopped
  answer_of_fault document json_patch (Patch number why) some is = absurd is.stopped
  answer_of_fault document json_patch (OfList why) some is = absurd is.stopped
  answer_of_fault document json_patch (Form why) some is = absurd is.stopped
  answer_of_fault document json_patch (Pointer why) some is = absurd is.stopped
  answer_of_fault document json_patch Missing some is = absurd is.stopped

  run_of_forms : (document json_patch : List ℕ) (d p : Document) (operations : List Operation) → document_in document ≡ Ok d → document_in json_patch ≡ Ok p → AreForms p operations
      → Has limit (patch_text document json_patch)
  run_of_forms document json_patch d p operations document_read patch_read forms =
      let good = readable document d document_read in
      let fine = readable json_patch p patch_read in
      elim (ends_or_fails d operations good.is_document (laws.run_documents p operations fine.is_document forms)) [
        | inl (e, runs, steps) ↦
            let is : IsPatchText document json_patch (compact e) = record {
              from = d;
              document_read = document_read;
              form = p;
              patch_read = patch_read;
              operations = operations;
              forms = forms;
              end = e;
              runs = runs;
              text = text_of_readable laws.joins.reads_back e (compact e) (laws.readable_runs d e operations good (laws.writable_forms p operations fine forms) runs) refl;
            } in
            sized limit (patch_text document json_patch) (IsLightPatchText limit document json_patch) (compact e) (is, steps) (λ is. is) (λ long. inr (refl, long))
        | inr (fault, some, stopped) ↦
            answer_of_fault document json_patch fault some (record {
              from = d;
              document_read = document_read;
              form = p;
              patch_read = patch_read;
              operations = operations;
              forms = forms;
              stopped = stopped;
            })
      ]

  patch_of_read : (document json_patch : List ℕ) (d p : Document) → document_in document ≡ Ok d → document_in json_patch ≡ Ok p → Has limit (patch_text document json_patch)
  patch_of_read document json_patch d p document_read patch_read = elim (laws.form_or_faulty p) [
    | inl (operations, forms) ↦ run_of_forms document json_patch d p operations document_read patch_read forms
    | inr (fault, other, faulty) ↦ (failed (Form fault), (λ e. cc, refl, ((d, document_read), (other, p, patch_read, faulty))))
  ]

  some_patch : (document json_patch : List ℕ) → Has limit (patch_text document json_patch)
  some_patch document json_patch = elim (read_or_not document) [
    | inr (fault, unread) ↦ (failed (NoDocument fault), (λ e. cc, refl, unread))
    | inl (d, document_read) ↦ elim (read_or_not json_patch) [
      | inl (p, patch_read) ↦ patch_of_read document json_patch d p document_read patch_read
      | inr (fault, unread) ↦ (failed (Patch 0 fault), (λ e. cc, refl, ((d, document_read), refl, unread)))
    ]
  ]

  part_of_tokens : (document pointer : List ℕ) (d : Document) (tokens : Tokens) → document_in document ≡ Ok d → pointer ≡ spell tokens → Has limit (part_text document pointer)
  part_of_tokens document pointer d tokens document_read spelled = by (part d tokens) refl
    where
      by : (o : Option Document) → part d tokens ≡ o → Has limit (part_text document pointer)
      by None none =
          let is : IsMissingPart document pointer = record { from = d; document_read = document_read; tokens = tokens; spelled = spelled; no_part = none } in
          (failed Missing, (λ e. cc, refl, is))
      by (Some x) found =
          let is : IsPartText document pointer (compact x) = record {
            from = d;
            document_read = document_read;
            tokens = tokens;
            spelled = spelled;
            value = x;
            is_part = found;
            text = text_of_readable laws.joins.reads_back x (compact x) (laws.readable_parts tokens d x (readable document d document_read) found) refl;
          } in
          sized limit (part_text document pointer) (IsPartText document pointer) (compact x) is (λ is. is) (λ long. (refl, long))

  some_part : (document pointer : List ℕ) → Has limit (part_text document pointer)
  some_part document pointer = elim (read_or_not document) [
    | inr (fault, unread) ↦ (failed (NoDocument fault), (λ e. cc, refl, unread))
    | inl (d, document_read) ↦ elim (laws.spelled_or_faulty pointer) [
      | inl (tokens, spelled) ↦ part_of_tokens document pointer d tokens document_read spelled
      | inr (fault, other, faulty) ↦ (failed (Pointer fault), (λ e. cc, refl, ((d, document_read), other, faulty)))
    ]
  ]

  answer_of : (call : Call) → Has limit call
  answer_of (join_texts patches) = some_join patches
  answer_of (replay_texts start patches) = some_replay start patches
  answer_of (merge_texts document patches) = some_merge document patches
  answer_of (rewrite_text document patch) = some_rewrite document patch
  answer_of (patch_text document json_patch) = some_patch document json_patch
  answer_of (part_text document pointer) = some_part document pointer

pub some_answer : ExistenceLaws → CallHasAnswer
some_answer laws limit call = answer_of laws limit call
