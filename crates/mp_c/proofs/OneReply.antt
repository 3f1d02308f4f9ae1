-- An export has one reply to its arguments, unless memory runs out.
use Rattle.std.proofs.Common.{◌≡◌, ◌≢◌, ◌≤◌, ◌∙◌, ℕ, List, ◌++◌, Option, None, Some, Ok, Err, length, take, drop, slice_get, append-nil, refl, sym, ap, subst, arith}
use Rattle.std.proofs.lemmas.Str.{utf8_valid_len-IsValidUpTo}
use Rattle.std.proofs.lemmas.List.{drop_all, take-append-le, take_all}
use Rattle.std.specs.Str.{IsUtf8, IsValidUpTo}
use Rattle.mp_tree.specs.Text.{document_in}
use Rattle.mp_tree.specs.Document.{Document}
use Rattle.mp_tree.specs.declared.fault.ReadFault.{ReadFault}
use Rattle.mp_pointer.specs.Spelling.{Tokens}
use Rattle.mp_merge.specs.declared.fault.ListFault.TheVariants as list
use Rattle.mp_texts.specs.Calls.{Call, join_texts, replay_texts, merge_texts, rewrite_text, patch_text, part_text, CallAnswer, returned, conflicting, failed, IsCallAnswer, MayFail}
use Rattle.mp_texts.specs.PlacesTexts.{AreShown}
use Rattle.mp_texts.specs.declared.fault.TextsFault.{TextsFault}
use Rattle.mp_texts.specs.declared.fault.TextsFault.TheVariants.{Document as NoDocument, Patch, List as OfList, OutOfMemory}
use Rattle.mp_c.specs.Answered.{ExportAnswer, answer_text, answer_conflict, answer_document, answer_patch, answer_fault, not_utf8, IsOther, IsPart, IsPlaceAt, IsPlaceIn, OfCall, call_document, call_patches}
use Rattle.mp_c.specs.Laws.{BeginsTheLarger, EachBeginsTheLarger, EachHasOneReply, HasOneReply, ReportTheSame}
use Rattle.mp_c.specs.Private.LawsOfTexts.{LawsOfTexts, PlaceLaws}
use Rattle.mp_c.specs.Replies.{IsReply, buffer_after}
use Rattle.mp_c.specs.Report.{Report, status_no_memory, report_of, report_of_fault}
use Rattle.mp_c.specs.declared.replying.Reply.{Reply}

abbrev pub HasMemory : Report → Type 0
HasMemory report = report.status ≢ status_no_memory

-- ---- an export's answer, as the answer of its call

-- the text of a patch that is no document is there
abbrev pub IsThere : Call → ℕ → Type 0
IsThere call number = (text : List ℕ) × (slice_get (call_patches call) number ≡ Some text)

pub patch_there : (limit : ℕ) (call : Call) (number : ℕ) (why : ReadFault) → MayFail limit call (Patch number why) → IsThere call number
patch_there limit (join_texts patches) number why is = (is.text, is.is)
patch_there limit (replay_texts start patches) number why is = (is.1.text, is.1.is)
patch_there limit (merge_texts document patches) number why is = (is.1.text, is.1.is)
patch_there limit (rewrite_text document patch) number why is = (patch, ap (slice_get (call_patches (rewrite_text document patch))) is.1)
patch_there limit (patch_text document json_patch) number why is = (json_patch, ap (slice_get (call_patches (patch_text document json_patch))) is.1)
patch_there limit (part_text document pointer) number why is = absurd is

-- the answer of the call that the export answers with
abbrev Of : ℕ → Call → CallAnswer → ExportAnswer → Type 0
Of limit call (returned text) a = a ≡ answer_text text
Of limit call (conflicting first second places total) a = (shown : List Tokens) × AreShown limit places shown × (a ≡ answer_conflict first second total shown)
Of limit call (failed (NoDocument why)) a = (place : Option Tokens) × IsPlaceIn why (call_document call) place × (a ≡ answer_document why place)
Of limit call (failed (Patch number why)) a =
    (place : Option Tokens) × IsThere call number × IsPlaceAt why (call_patches call) number place × (a ≡ answer_patch number why place)
Of limit call (failed why) a = a ≡ answer_fault why

record Seen (limit : ℕ) (call : Call) (a : ExportAnswer) : Type 0 where
  answer : CallAnswer
  is : IsCallAnswer limit call answer
  shows : Of limit call answer a

other_seen : (limit : ℕ) (call : Call) (why : TextsFault) → IsOther why → MayFail limit call why → why ≢ OutOfMemory → Seen limit call (answer_fault why)
other_seen limit call (NoDocument why) other may some = absurd other
other_seen limit call (Patch number why) other may some = absurd other
other_seen limit call (OfList (list.ConflictOf first second conflicts)) other may some = absurd other
other_seen limit call OutOfMemory other may some = absurd (some refl)
other_seen limit call why other may some = record { answer = failed why; is = (some, refl, may); shows = refl }

seen : (limit : ℕ) (call : Call) (a : ExportAnswer) → OfCall limit call a → HasMemory (report_of a) → Seen limit call a
seen limit call (answer_text text) is memory = record { answer = returned text; is = is; shows = refl }
seen limit call (answer_conflict first second total shown) is memory = record { answer = conflicting first second is.0 total; is = is.1; shows = (shown, is.2, refl) }
seen limit call (answer_document why place) is memory = record { answer = failed (NoDocument why); is = ((λ e. cc), refl, is.0); shows = (place, is.1, refl) }
seen limit call (answer_patch number why place) is memory = record { answer = failed (Patch number why); is = ((λ e. cc), refl, is.0); shows = (place, patch_there limit call number why is.0, is.1, refl) }
seen limit call (answer_fault why) is memory = other_seen limit call why is.0 is.1 (λ none. memory (ap (λ f. (report_of_fault f).status) none))
seen limit call (not_utf8 offset) is memory = absurd is

module _ (places : PlaceLaws) where
  one_place_in : (why : ReadFault) (text : List ℕ) (place other : Option Tokens) → IsPlaceIn why text place → IsPlaceIn why text other → place ≡ other
  one_place_in why text None None one also = refl
  one_place_in why text None (Some place) one also = absurd (places.none_is_none why text place one also)
  one_place_in why text (Some place) None one also = absurd (places.none_is_none why text place also one)
  one_place_in why text (Some place) (Some other) one also = ap Some (places.one_place why text place other one also)

  -- what is reported of one answer of the call is one
  one_of : (limit : ℕ) (call : Call) (answer : CallAnswer) (a b : ExportAnswer) → Of limit call answer a → Of limit call answer b → a ≡ b
  one_of limit call (returned text) a b is was = is ∙ sym was
  one_of limit call (conflicting first second listed total) a b (shown, is, same) (other, was, also) =
      same ∙ ap (answer_conflict first second total) (places.these_shown limit listed shown other is was) ∙ sym also
  one_of limit call (failed (NoDocument why)) a b (place, is, same) (other, was, also) =
      same ∙ ap (answer_document why) (one_place_in why (call_document call) place other is was) ∙ sym also
  one_of limit call (failed (Patch number why)) a b (place, there, is, same) (other, here, was, also) =
      same ∙ ap (answer_patch number why) (one_place_in why there.0 place other (is there.0 there.1) (was there.0 there.1)) ∙ sym also
  one_of limit call (failed why) a b is was = is ∙ sym was

-- ---- replies that report the same

reply_of : ℕ → ℕ → ℕ → ℕ → ℕ → ℕ → ℕ → Reply
reply_of whole first second total places status flags =
    record { length = whole; first = first; second = second; total = total; places = places; status = status; flags = flags }

same_reply : (report : Report) (reply other : Reply) (before after other_before other_after : List ℕ) → IsReply report reply before after → IsReply report other other_before other_after
    → ReportTheSame reply other before after other_before other_after
unfolding reply_of
same_reply report reply other before after other_before other_after one also = record {
  same =
      ap (λ (n : ℕ). reply_of n reply.first reply.second reply.total reply.places reply.status reply.flags) (one.whole ∙ sym also.whole)
      ∙ ap (λ (n : ℕ). reply_of other.length n reply.second reply.total reply.places reply.status reply.flags) (one.first ∙ sym also.first)
      ∙ ap (λ (n : ℕ). reply_of other.length other.first n reply.total reply.places reply.status reply.flags) (one.second ∙ sym also.second)
      ∙ ap (λ (n : ℕ). reply_of other.length other.first other.second n reply.places reply.status reply.flags) (one.total ∙ sym also.total)
      ∙ ap (λ (n : ℕ). reply_of other.length other.first other.second other.total n reply.status reply.flags) (one.places ∙ sym also.places)
      ∙ ap (λ (n : ℕ). reply_of other.length other.first other.second other.total other.places n reply.flags) (one.status ∙ sym also.status)
      ∙ ap (λ (n : ℕ). reply_of other.length other.first other.second other.total other.places other.status n) (one.flags ∙ sym also.flags);
  text = report.text;
  whole = one.whole;
  buffer = one.buffer;
  other_buffer = also.buffer;
}

-- what is reported of the answers of an export, one and all
abbrev pub OneIsReported : (ExportAnswer → Type 0) → Type 0
OneIsReported IsAnswer = (a b : ExportAnswer) → IsAnswer a → IsAnswer b → HasMemory (report_of a) → HasMemory (report_of b) → report_of a ≡ report_of b

replied_once : (IsAnswer : ℕ → ExportAnswer → Type 0) → ((limit : ℕ) → OneIsReported (IsAnswer limit)) → HasOneReply IsAnswer
replied_once IsAnswer one limit reply other before after other_before other_after (a, is, replied) (b, was, other_replied) memory other_memory =
    let same = one limit a b is was (λ none. memory (replied.status ∙ none)) (λ none. other_memory (other_replied.status ∙ none)) in
    same_reply (report_of a) reply other before after other_before other_after replied
    (subst (λ (report : Report). IsReply report other other_before other_after) (sym same) other_replied)

-- ---- a text that is cut

begins : (before other_before written : List ℕ) → length before ≤ length written → length written ≤ length other_before
    → buffer_after before written ≡ take (length before) (buffer_after other_before written)
begins before other_before written short enough =
    let n = length before in
    let rest = drop (length written) other_before in
    ap (λ (t : List ℕ). take n written ++ t) (drop_all (length written) before short)
    ∙ append-nil (take n written)
    ∙ sym (take-append-le n written rest short)
    ∙ sym (ap (λ (t : List ℕ). take n (t ++ rest)) (take_all (length other_before) written enough))

begins_the_larger : (IsAnswer : ℕ → ExportAnswer → Type 0) → HasOneReply IsAnswer → BeginsTheLarger IsAnswer
begins_the_larger IsAnswer one limit reply other before after other_before other_after replied other_replied memory other_memory short enough =
    let same = one limit reply other before after other_before other_after replied other_replied memory other_memory in
    let cut : length before ≤ length same.text = subst (λ (n : ℕ). length before ≤ n) same.whole short in
    let whole : length same.text ≤ length other_before = subst (λ (n : ℕ). n ≤ length other_before) same.whole enough in
    same.buffer ∙ begins before other_before same.text cut whole ∙ sym (ap (take (length before)) same.other_buffer)

-- ---- the exports that answer as the call over texts does

module _ (laws : LawsOfTexts) where
  pub one_of_call : (limit : ℕ) (call : Call) (a b : ExportAnswer) → OfCall limit call a → OfCall limit call b → HasMemory (report_of a) → HasMemory (report_of b) → a ≡ b
  one_of_call limit call a b is was memory other =
      let one = seen limit call a is memory in
      let also = seen limit call b was other in
      let same = laws.one_answer limit call one.answer also.answer one.is also.is in
      one_of laws.places limit call also.answer a b (subst (λ x. Of limit call x a) same one.shows) also.shows

  pub one_is_reported : (limit : ℕ) (call : Call) → OneIsReported (OfCall limit call)
  one_is_reported limit call a b is was memory other = ap report_of (one_of_call limit call a b is was memory other)

  as_over_texts : (call : Call) → HasOneReply (λ limit. OfCall limit call)
  as_over_texts call = replied_once (λ limit. OfCall limit call) (λ limit. one_is_reported limit call)

  -- ---- parts

  utf8_or_not : (pointer : List ℕ) (offset : ℕ) → IsUtf8 pointer → IsValidUpTo pointer offset → ⊥
  utf8_or_not pointer offset utf8 valid =
      let whole : take (length pointer) pointer ≡ pointer = take_all (length pointer) pointer (omega arith) in
      valid.longest (length pointer) valid.short (subst IsUtf8 (sym whole) utf8)

  one_offset : (pointer : List ℕ) (offset other : ℕ) → IsValidUpTo pointer offset → IsValidUpTo pointer other → offset ≡ other
  one_offset pointer offset other one also = sym (utf8_valid_len-IsValidUpTo pointer offset one) ∙ utf8_valid_len-IsValidUpTo pointer other also

  unread : (document : List ℕ) (d : Document) (why : ReadFault) → document_in document ≡ Ok d → document_in document ≡ Err why → ⊥
  unread document d why one other = cc

  -- what an answer that is not out of memory says of a part: it is one of the call, or the pointer is not UTF-8
  data PartSaid (limit : ℕ) (document pointer : List ℕ) (a : ExportAnswer) : Type 0 where
    of_call : OfCall limit (part_text document pointer) a → PartSaid limit document pointer a
    of_pointer : (offset : ℕ) → ((d : Document) × (document_in document ≡ Ok d)) → IsValidUpTo pointer offset → a ≡ not_utf8 offset → PartSaid limit document pointer a

  -- the same, with whether the pointer is UTF-8 where that matters
  said : (limit : ℕ) (document pointer : List ℕ) (a : ExportAnswer) → IsPart limit document pointer a → HasMemory (report_of a) → PartSaid limit document pointer a
  said limit document pointer (answer_document why place) is memory = of_call is
  said limit document pointer (not_utf8 offset) is memory = of_pointer offset is.0 is.1 refl
  said limit document pointer (answer_fault OutOfMemory) is memory = absurd (memory refl)
  said limit document pointer a is memory = of_call is.1

  -- a pointer that is not UTF-8 has no other answer
  not_both : (limit : ℕ) (document pointer : List ℕ) (a : ExportAnswer) (offset : ℕ) → IsPart limit document pointer a → HasMemory (report_of a) → IsPart limit document pointer (not_utf8 offset) → a ≡ not_utf8 offset
  not_both limit document pointer (answer_document why place) offset is memory not = absurd (unread document not.0.0 why not.0.1 is.0)
  not_both limit document pointer (not_utf8 other) offset is memory not = ap not_utf8 (one_offset pointer other offset is.1 not.1)
  not_both limit document pointer (answer_fault OutOfMemory) offset is memory not = absurd (memory refl)
  not_both limit document pointer a offset is memory not = absurd (utf8_or_not pointer offset is.0 not.1)

  pub one_part : (limit : ℕ) (document pointer : List ℕ) → OneIsReported (IsPart limit document pointer)
  one_part limit document pointer a b is was memory other = by (said limit document pointer a is memory) (said limit document pointer b was other)
    where
      by : PartSaid limit document pointer a → PartSaid limit document pointer b → report_of a ≡ report_of b
      by (of_call one) (of_call also) = one_is_reported limit (part_text document pointer) a b one also memory other
      by (of_pointer offset read valid same) said_b = ap report_of (same ∙ sym (not_both limit document pointer b offset was other (read, valid)))
      by (of_call one) (of_pointer offset read valid same) = ap report_of (not_both limit document pointer a offset is memory (read, valid) ∙ sym same)

  -- ---- all six

  pub each_has_one_reply : EachHasOneReply
  each_has_one_reply = record {
    join = λ patches. as_over_texts (join_texts patches);
    replay = λ start patches. as_over_texts (replay_texts start patches);
    merge = λ document patches. as_over_texts (merge_texts document patches);
    rewrite = λ document patch. as_over_texts (rewrite_text document patch);
    patch = λ document json_patch. as_over_texts (patch_text document json_patch);
    get = λ document pointer. replied_once (λ limit. IsPart limit document pointer) (λ limit. one_part limit document pointer);
  }

  pub each_begins_the_larger : EachBeginsTheLarger
  each_begins_the_larger =
      let all = each_has_one_reply in
      record {
        join = λ patches. begins_the_larger (λ limit. OfCall limit (join_texts patches)) (all.join patches);
        replay = λ start patches. begins_the_larger (λ limit. OfCall limit (replay_texts start patches)) (all.replay start patches);
        merge = λ document patches. begins_the_larger (λ limit. OfCall limit (merge_texts document patches)) (all.merge document patches);
        rewrite = λ document patch. begins_the_larger (λ limit. OfCall limit (rewrite_text document patch)) (all.rewrite document patch);
        patch = λ document json_patch. begins_the_larger (λ limit. OfCall limit (patch_text document json_patch)) (all.patch document json_patch);
        get = λ document pointer. begins_the_larger (λ limit. IsPart limit document pointer) (all.get document pointer);
      }
