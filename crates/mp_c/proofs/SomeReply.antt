-- An export has a reply to its arguments, whatever bytes they are.
use Rattle.std.proofs.Common.{◌≡◌, ◌≢◌, ◌⊎◌, ◌≤◌, ◌<◌, ◌∙◌, ℕ, zero, suc, Bool, true, false, List, Option, None, Some, Result, Ok, Err, length, take, slice_get, inl, inr, refl, sym, ap, subst, arith}
use Rattle.std.proofs.lemmas.Bool.{cases_lt}
use Rattle.std.proofs.lemmas.List.{take_all}
use Rattle.std.proofs.lemmas.Str.{IsUtf8-from_is_utf8, IsUtf8-nil, is_utf8-from_IsUtf8}
use Rattle.std.specs.Str.{IsUtf8, IsValidUpTo, is_utf8}
use Rattle.mp_tree.specs.Document.{Document}
use Rattle.mp_tree.specs.Text.{document_in}
use Rattle.mp_tree.specs.declared.fault.ReadFault.{ReadFault}
use Rattle.mp_tree.specs.declared.fault.ReadFault.TheVariants as read
use Rattle.mp_pointer.specs.Spelling.{Tokens}
use Rattle.mp_pointer.specs.declared.fault.PointerFault.{PointerFault}
use Rattle.mp_pointer.specs.declared.fault.PointerFault.TheVariants as pointer
use Rattle.mp_patch.specs.declared.fault.ApplyFault.{ApplyFault}
use Rattle.mp_patch.specs.declared.fault.ApplyFault.TheVariants as apply
use Rattle.mp_patch.specs.declared.fault.FormFault.{FormFault}
use Rattle.mp_patch.specs.declared.fault.FormFault.TheVariants as form
use Rattle.mp_merge.specs.declared.comparing.Conflicts.{Conflicts}
use Rattle.mp_merge.specs.declared.fault.ListFault.{ListFault}
use Rattle.mp_merge.specs.declared.fault.ListFault.TheVariants as list
use Rattle.mp_texts.specs.Calls.{Call, join_texts, replay_texts, merge_texts, rewrite_text, patch_text, part_text, CallAnswer, returned, conflicting, failed, IsCallAnswer, MayFail}
use Rattle.mp_texts.specs.FaultPlaces.{HasNoFaultPlace, IsFaultPlace}
use Rattle.mp_texts.specs.Faults.{IsRead}
use Rattle.mp_texts.specs.declared.fault.TextsFault.TheVariants.{Document as NoDocument, Patch, List as OfList, Form, Refused, Pointer, Missing, TooLarge, OutOfMemory}
use Rattle.mp_c.specs.Answered.{ExportAnswer, answer_text, answer_conflict, answer_document, answer_patch, answer_fault, not_utf8, IsPart, IsPlaceAt, IsPlaceIn, OfCall, call_document, call_patches}
use Rattle.mp_c.specs.Laws.{EachHasReport, HasReport}
use Rattle.mp_c.specs.Private.LawsOfTexts.{LawsOfTexts}
use Rattle.mp_c.specs.Replies.{IsReply}
use Rattle.mp_c.specs.Report.{Report, report_of, report_of_apply, report_of_document, report_of_form, report_of_patch, report_of_pointer}
use Rattle.mp_c.proofs.Exports.{part_of_call}
use Rattle.mp_c.proofs.OneReply.{HasMemory, OneIsReported, one_is_reported, one_part, patch_there}

-- ---- bytes are UTF-8, or there is the offset from which on they are not

differs : false ≡ true → ⊥
differs e = cc

-- the longest front of at most m bytes that is UTF-8
record Front (bs : List ℕ) (m : ℕ) : Type 0 where
  n : ℕ
  within : n ≤ m
  is : IsUtf8 (take n bs)
  longest : (k : ℕ) → n < k → k ≤ m → ¬ IsUtf8 (take k bs)

longest_front : (bs : List ℕ) (m : ℕ) → Front bs m
longest_front bs zero = record { n = 0; within = omega arith; is = IsUtf8-nil; longest = λ k above below. absurd (omega arith) }
longest_front bs (suc m) = by (is_utf8 (take (suc m) bs)) refl (longest_front bs m)
  where
    by : (b : Bool) → is_utf8 (take (suc m) bs) ≡ b → Front bs m → Front bs (suc m)
    by true utf8 rest = record { n = suc m; within = omega arith; is = IsUtf8-from_is_utf8 (take (suc m) bs) utf8; longest = λ k above below. absurd (omega arith) }
    by false not rest = record {
      n = rest.n;
      within = (let below = rest.within in omega arith);
      is = rest.is;
      longest = λ k above below utf8. elim (cases_lt k (suc m)) [
        | inl less ↦ rest.longest k above (omega arith) utf8
        | inr more ↦ let same : k ≡ suc m = omega arith in differs (sym not ∙ is_utf8-from_IsUtf8 (take (suc m) bs) (subst (λ (i : ℕ). IsUtf8 (take i bs)) same utf8))
      ];
    }

utf8_or_offset : (bs : List ℕ) → IsUtf8 bs ⊎ ((n : ℕ) × IsValidUpTo bs n)
utf8_or_offset bs = by (is_utf8 bs) refl
  where
    by : (b : Bool) → is_utf8 bs ≡ b → IsUtf8 bs ⊎ ((n : ℕ) × IsValidUpTo bs n)
    by true utf8 = inl (IsUtf8-from_is_utf8 bs utf8)
    by false not =
        let none : IsUtf8 bs → ⊥ = λ utf8. differs (sym not ∙ is_utf8-from_IsUtf8 bs utf8) in
        let front = longest_front bs (length bs) in
        let whole : (m : ℕ) → length bs ≤ m → IsUtf8 (take m bs) → ⊥ = λ m over utf8. none (subst IsUtf8 (take_all m bs over) utf8) in
        let short : front.n < length bs = elim (cases_lt front.n (length bs)) [ inl less ↦ less | inr over ↦ absurd (whole front.n over front.is) ] in
        inr (
          front.n,
          record {
            short = short;
            front = front.is;
            longest = λ m above utf8. elim (cases_lt m (length bs)) [ inl less ↦ front.longest m above (omega arith) utf8 | inr over ↦ whole m over utf8 ];
          },
        )

-- ---- a result is not reported as out of memory, nor is an error that is none

document_memory : (why : ReadFault) (place : Option Tokens) → why ≢ read.OutOfMemory → HasMemory (report_of_document why place)
document_memory read.OutOfMemory place some = absurd (some refl)
document_memory why None some = λ e. cc
document_memory why (Some place) some = λ e. cc

patch_memory : (number : ℕ) (why : ReadFault) (place : Option Tokens) → why ≢ read.OutOfMemory → HasMemory (report_of_patch number why place)
patch_memory number read.OutOfMemory place some = absurd (some refl)
patch_memory number why None some = λ e. cc
patch_memory number why (Some place) some = λ e. cc

form_memory : (why : FormFault) → why ≢ form.OutOfMemory → HasMemory (report_of_form why)
form_memory form.OutOfMemory some = absurd (some refl)
form_memory why some = λ e. cc

apply_memory : (why : ApplyFault) → why ≢ apply.OutOfMemory → HasMemory (report_of_apply why)
apply_memory (apply.Refused number cause) some = λ e. cc
apply_memory apply.OutOfMemory some = absurd (some refl)

pointer_memory : (why : PointerFault) → why ≢ pointer.OutOfMemory → HasMemory (report_of_pointer why)
pointer_memory pointer.OutOfMemory some = absurd (some refl)
pointer_memory why some = λ e. cc

-- ---- places

some_place : (why : ReadFault) (text : List ℕ) → HasNoFaultPlace why text ⊎ ((place : Tokens) × IsFaultPlace why text place) → (place : Option Tokens) × IsPlaceIn why text place
some_place why text (inl none) = (None, none)
some_place why text (inr (place, is)) = (Some place, is)

-- the one text of that number
at_number : (why : ReadFault) (texts : List (List ℕ)) (number : ℕ) (text : List ℕ) (place : Option Tokens) → slice_get texts number ≡ Some text → IsPlaceIn why text place → IsPlaceAt why texts number place
at_number why texts number text place there is = λ other here. let same : text ≡ other = cc in subst (λ (t : List ℕ). IsPlaceIn why t place) same is

module _ (laws : LawsOfTexts) where
  of_bytes : (bytes : List ℕ) (why : ReadFault) → document_in bytes ≡ Err why → why ≢ read.OutOfMemory
  of_bytes bytes why is none = laws.of_bytes bytes (is ∙ ap Err none)

  document_fault : (limit : ℕ) (call : Call) (why : ReadFault) → MayFail limit call (NoDocument why) → why ≢ read.OutOfMemory
  document_fault limit (join_texts patches) why is = absurd is
  document_fault limit call why is = of_bytes (call_document call) why is

  patch_fault : (limit : ℕ) (call : Call) (number : ℕ) (why : ReadFault) → MayFail limit call (Patch number why) → why ≢ read.OutOfMemory
  patch_fault limit (join_texts patches) number why is = of_bytes is.text why is.unread
  patch_fault limit (replay_texts start patches) number why is = of_bytes is.1.text why is.1.unread
  patch_fault limit (merge_texts document patches) number why is = of_bytes is.1.text why is.1.unread
  patch_fault limit (rewrite_text document patch) number why is = of_bytes patch why is.2
  patch_fault limit (patch_text document json_patch) number why is = of_bytes json_patch why is.2
  patch_fault limit (part_text document pointer) number why is = absurd is

  list_fault : (limit : ℕ) (call : Call) (why : ListFault Conflicts) → MayFail limit call (OfList why) → why ≢ list.OutOfMemory
  list_fault limit (join_texts patches) why is = is.0
  list_fault limit (replay_texts start patches) why is = is.0
  list_fault limit call why is = absurd is

  form_fault : (limit : ℕ) (call : Call) (why : FormFault) → MayFail limit call (Form why) → why ≢ form.OutOfMemory
  form_fault limit (patch_text document json_patch) why is = is.1.0
  form_fault limit call why is = absurd is

  no_memory_refused : (limit : ℕ) (call : Call) → MayFail limit call (Refused apply.OutOfMemory) → ⊥
  no_memory_refused limit (patch_text document json_patch) is = is.stopped
  no_memory_refused limit call is = absurd is

  apply_fault : (limit : ℕ) (call : Call) (why : ApplyFault) → MayFail limit call (Refused why) → why ≢ apply.OutOfMemory
  apply_fault limit call why is none = no_memory_refused limit call (subst (λ f. MayFail limit call (Refused f)) none is)

  pointer_fault : (limit : ℕ) (call : Call) (why : PointerFault) → MayFail limit call (Pointer why) → why ≢ pointer.OutOfMemory
  pointer_fault limit (part_text document pointer) why is = is.1
  pointer_fault limit call why is = absurd is

  -- ---- an answer of the call is one of the export

  record Has (IsAnswer : ExportAnswer → Type 0) : Type 0 where
    answer : ExportAnswer
    is : IsAnswer answer
    memory : HasMemory (report_of answer)

  has_of : (limit : ℕ) (call : Call) (answer : CallAnswer) → IsCallAnswer limit call answer → Has (OfCall limit call)
  has_of limit call (returned text) is = record { answer = answer_text text; is = is; memory = λ e. cc }
  has_of limit call (conflicting first second places total) is =
      let shown = laws.places.some_shown limit places in
      record { answer = answer_conflict first second total shown.0; is = (places, is, shown.1); memory = λ e. cc }
  has_of limit call (failed (NoDocument why)) is =
      let place = some_place why (call_document call) (laws.places.place_or_none why (call_document call)) in
      record { answer = answer_document why place.0; is = (is.2, place.1); memory = document_memory why place.0 (document_fault limit call why is.2) }
  has_of limit call (failed (Patch number why)) is =
      let there = patch_there limit call number why is.2 in
      let place = some_place why there.0 (laws.places.place_or_none why there.0) in
      record {
        answer = answer_patch number why place.0;
        is = (is.2, at_number why (call_patches call) number there.0 place.0 there.1 place.1);
        memory = patch_memory number why place.0 (patch_fault limit call number why is.2);
      }
  has_of limit call (failed (OfList (list.ConflictOf first second conflicts))) is = absurd (no_conflict is.1)
    where
      no_conflict : conflicting first second conflicts.places.items conflicts.total ≡ failed (OfList (list.ConflictOf first second conflicts)) → ⊥
      no_conflict e = cc
  has_of limit call (failed (OfList list.NoPatches)) is = record { answer = answer_fault (OfList list.NoPatches); is = (tt, is.2); memory = λ e. cc }
  has_of limit call (failed (OfList list.OutOfMemory)) is = absurd (list_fault limit call list.OutOfMemory is.2 refl)
  has_of limit call (failed (Form why)) is = record { answer = answer_fault (Form why); is = (tt, is.2); memory = form_memory why (form_fault limit call why is.2) }
  has_of limit call (failed (Refused why)) is = record { answer = answer_fault (Refused why); is = (tt, is.2); memory = apply_memory why (apply_fault limit call why is.2) }
  has_of limit call (failed (Pointer why)) is = record { answer = answer_fault (Pointer why); is = (tt, is.2); memory = pointer_memory why (pointer_fault limit call why is.2) }
  has_of limit call (failed Missing) is = record { answer = answer_fault Missing; is = (tt, is.2); memory = λ e. cc }
  has_of limit call (failed (TooLarge number)) is = record { answer = answer_fault (TooLarge number); is = (tt, is.2); memory = λ e. cc }
  has_of limit call (failed OutOfMemory) is = absurd (is.0 refl)

  -- ---- each reply is the one that there is

  report_of_has : (IsAnswer : ExportAnswer → Type 0) → OneIsReported IsAnswer → Has IsAnswer → HasReport IsAnswer
  report_of_has IsAnswer one has = record {
    report = report_of has.answer;
    may = (has.answer, has.is, refl);
    has_memory = has.memory;
    each = λ reply before after (a, is, replied) memory.
        subst (λ (t : Report). IsReply t reply before after) (one a has.answer is has.is (λ none. memory (replied.status ∙ none)) has.memory) replied;
  }

  report_over_texts : (call : Call) (limit : ℕ) → HasReport (OfCall limit call)
  report_over_texts call limit = let (answer, is) = laws.has_answer limit call in report_of_has (OfCall limit call) (one_is_reported laws limit call) (has_of limit call answer is)

  -- ---- parts

  part_of_document : (limit : ℕ) (document pointer : List ℕ) → IsRead document → Has (IsPart limit document pointer)
  part_of_document limit document pointer is_read = elim (utf8_or_offset pointer) [
    | inl utf8 ↦
        let (answer, is) = laws.has_answer limit (part_text document pointer) in
        let has = has_of limit (part_text document pointer) answer is in
        record { answer = has.answer; is = part_of_call limit document pointer has.answer utf8 has.is; memory = has.memory }
    | inr (offset, valid) ↦ record { answer = not_utf8 offset; is = (is_read, valid); memory = λ e. cc }
  ]

  some_part : (limit : ℕ) (document pointer : List ℕ) → Has (IsPart limit document pointer)
  some_part limit document pointer = by (document_in document) refl
    where
      by : (r : Result Document ReadFault) → document_in document ≡ r → Has (IsPart limit document pointer)
      by (Ok d) is = part_of_document limit document pointer (d, is)
      by (Err why) is =
          let place = some_place why document (laws.places.place_or_none why document) in
          record { answer = answer_document why place.0; is = (is, place.1); memory = document_memory why place.0 (of_bytes document why is) }

  -- ---- all six

  pub each_has_report : EachHasReport
  each_has_report = record {
    join = λ patches. report_over_texts (join_texts patches);
    replay = λ start patches. report_over_texts (replay_texts start patches);
    merge = λ document patches. report_over_texts (merge_texts document patches);
    rewrite = λ document patch. report_over_texts (rewrite_text document patch);
    patch = λ document json_patch. report_over_texts (patch_text document json_patch);
    get = λ document pointer limit. report_of_has (IsPart limit document pointer) (one_part laws limit document pointer) (some_part limit document pointer);
  }
