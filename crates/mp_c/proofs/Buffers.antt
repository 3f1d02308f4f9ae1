-- What is in a buffer that holds the whole text of a result.
use Rattle.std.proofs.Common.{if◌then◌else◌, ◌≡◌, ◌≢◌, ◌≤◌, ◌∙◌, ℕ, Bool, true, false, nat_lt, List, ◌++◌, Option, None, Some, inl, inr, length, take, drop, refl, sym, ap, subst}
use Rattle.std.proofs.Math.Seq.{take-append_seam}
use Rattle.std.proofs.lemmas.List.{take_all}
use Rattle.mp_tree.specs.declared.fault.ReadFault.{ReadFault}
use Rattle.mp_tree.specs.declared.fault.ReadFault.TheVariants as read
use Rattle.mp_pointer.specs.Spelling.{Tokens}
use Rattle.mp_pointer.specs.declared.fault.PointerFault.{PointerFault}
use Rattle.mp_pointer.specs.declared.fault.PointerFault.TheVariants as pointer
use Rattle.mp_patch.specs.declared.fault.ApplyFault.TheVariants as apply
use Rattle.mp_patch.specs.declared.fault.FormFault.TheVariants as form
use Rattle.mp_merge.specs.declared.fault.ListFault.TheVariants as list
use Rattle.mp_texts.specs.Answers.{IsReplayText}
use Rattle.mp_texts.specs.Calls.{replay_texts}
use Rattle.mp_texts.specs.Laws.{OneReplayText}
use Rattle.mp_texts.specs.declared.fault.TextsFault.{TextsFault}
use Rattle.mp_texts.specs.declared.fault.TextsFault.TheVariants as texts
use Rattle.mp_replica.specs.Held.{HeldReplica}
use Rattle.mp_replica.specs.declared.fault.LiveFault.{LiveFault}
use Rattle.mp_replica.specs.declared.fault.LiveFault.TheVariants as live
use Rattle.mp_c.specs.Answered.{ExportAnswer, answer_text, answer_conflict, answer_document, answer_patch, answer_fault, not_utf8, OfCall}
use Rattle.mp_c.specs.Laws.{HandleFollows, GaveDocument, ReplaysAgreeInTheirBuffers}
use Rattle.mp_c.specs.OnHandles.{HandleAnswer, handle_text, handle_conflict, handle_first_pairs, handle_first_places, handle_unread, handle_fault, handle_not_utf8, handle_not_started, OfStarted, ShowsDocument}
use Rattle.mp_c.specs.Replies.{IsReply, buffer_after}
use Rattle.mp_texts.specs.Lines.{too_large}
use Rattle.mp_c.specs.Report.{Report, a_document, status_conflict, status_not_started, status_pointer, status_result, status_too_large, unnumbered, report_of, report_of_document, report_of_fault, report_of_handle, report_of_live_fault, report_of_patch, report_of_pointer, report_of_said, report_of_text}
use Rattle.mp_c.specs.declared.replying.Reply.{Reply}

-- ---- no error is reported as a result

of_document : (why : ReadFault) (place : Option Tokens) → ¬ ((report_of_document why place).status ≡ status_result)
of_document read.OutOfMemory place e = cc
of_document why None e = cc
of_document why (Some place) e = cc

of_patch : (number : ℕ) (why : ReadFault) (place : Option Tokens) → ¬ ((report_of_patch number why place).status ≡ status_result)
of_patch number read.OutOfMemory place e = cc
of_patch number why None e = cc
of_patch number why (Some place) e = cc

of_pointer : (why : PointerFault) → ¬ ((report_of_pointer why).status ≡ status_result)
of_pointer pointer.NoSlash e = cc
of_pointer why e = cc

no_result : (why : TextsFault) → ¬ ((report_of_fault why).status ≡ status_result)
no_result (texts.Document why) e = of_document why None e
no_result (texts.Patch number why) e = of_patch number why None e
no_result (texts.Pointer why) e = of_pointer why e
no_result (texts.List list.NoPatches) e = cc
no_result (texts.List why) e = cc
no_result (texts.Form form.NotAnArray) e = cc
no_result (texts.Form why) e = cc
no_result (texts.Refused apply.OutOfMemory) e = cc
no_result (texts.Refused why) e = cc
no_result why e = cc

no_live_result : (why : LiveFault) → ¬ ((report_of_live_fault a_document why).status ≡ status_result)
no_live_result (live.Document why) e = of_document why None e
no_live_result (live.Pointer why) e = of_pointer why e
no_live_result why e = cc

no_conflict : ¬ (status_conflict ≡ status_result)
no_conflict e = cc

no_said : (numbers : Option (ℕ × ℕ)) (total : ℕ) (more : Bool) (said : Option (List Tokens)) → ¬ ((report_of_said numbers total more said).status ≡ status_result)
no_said numbers total more None e = cc
no_said numbers total more (Some shown) e = cc

no_pointer : ¬ (status_pointer ≡ status_result)
no_pointer e = cc

no_start : ¬ (status_not_started ≡ status_result)
no_start e = cc

-- ---- the text in the buffer

whole_text : (before written : List ℕ) → length written ≤ length before → take (length written) (buffer_after before written) ≡ written
whole_text before written enough =
    ap (λ (t : List ℕ). take (length written) (t ++ drop (length written) before)) (take_all (length before) written enough)
    ∙ take-append_seam written (drop (length written) before)

-- ---- the text of a result is not too large

fits : (limit : ℕ) (result : List ℕ) → (report_of_text limit result).status ≡ status_result → report_of_text limit result ≡ unnumbered status_result result
fits limit result = by (nat_lt limit (length result))
  where
    by : (b : Bool) → (if b then unnumbered status_too_large too_large else unnumbered status_result result).status ≡ status_result
        → (if b then unnumbered status_too_large too_large else unnumbered status_result result) ≡ unnumbered status_result result
    by true e = absurd (cc)
    by false e = refl

-- ---- a buffer that has a text

-- the text of a result, and that the buffer begins with it
pub record HoldsText (IsText : List ℕ → Type 0) (reply : Reply) (buffer : List ℕ) : Type 0 where
  pub written : List ℕ
  pub is : IsText written
  pub whole : reply.length ≡ length written
  pub first_bytes : take reply.length buffer ≡ written

-- two buffers that have one text
pub held_alike : {IsText IsOther : List ℕ → Type 0} (reply other : Reply) (buffer other_buffer : List ℕ) → (this : HoldsText IsText reply buffer) → (that : HoldsText IsOther other other_buffer) → this.written ≡ that.written
    → (reply.length ≡ other.length) × (take reply.length buffer ≡ take other.length other_buffer)
held_alike reply other buffer other_buffer this that one = (this.whole ∙ ap length one ∙ sym that.whole, this.first_bytes ∙ one ∙ sym that.first_bytes)

module _ (IsText : List ℕ → Type 0) (reply : Reply) (before buffer : List ℕ) (enough : reply.length ≤ length before) where
  text_held : (written : List ℕ) → IsText written → IsReply (unnumbered status_result written) reply before buffer → HoldsText IsText reply buffer
  text_held written is replied = record {
    written = written;
    is = is;
    whole = replied.whole;
    first_bytes =
        ap (λ (n : ℕ). take n buffer) replied.whole ∙ ap (take (length written)) replied.buffer
        ∙ whole_text before written (subst (λ (n : ℕ). n ≤ length before) replied.whole enough);
  }

  -- what a call on a handle answers with a result, of which nothing is left out, is a text
  pub result_held : (limit : ℕ) (answer : HandleAnswer) → IsReply (report_of_handle limit a_document answer) reply before buffer → reply.status ≡ status_result
      → ((written : List ℕ) → answer ≡ handle_text written → IsText written) → ((array : List ℕ) → answer ≢ handle_first_pairs array) → HoldsText IsText reply buffer
  result_held limit (handle_text written) replied has_result is whole =
      text_held written (is written refl) (subst (λ (r : Report). IsReply r reply before buffer) (fits limit written (sym replied.status ∙ has_result)) replied)
  result_held limit (handle_conflict total said) replied has_result is whole = absurd (no_said None total false said (sym replied.status ∙ has_result))
  result_held limit (handle_first_places total said) replied has_result is whole = absurd (no_said None total true said (sym replied.status ∙ has_result))
  result_held limit (handle_first_pairs array) replied has_result is whole = absurd (whole array refl)
  result_held limit (handle_unread why place) replied has_result is whole = absurd (of_document why place (sym replied.status ∙ has_result))
  result_held limit (handle_fault why) replied has_result is whole = absurd (no_live_result why (sym replied.status ∙ has_result))
  result_held limit (handle_not_utf8 offset) replied has_result is whole = absurd (no_pointer (sym replied.status ∙ has_result))
  result_held limit handle_not_started replied has_result is whole = absurd (no_start (sym replied.status ∙ has_result))

-- ---- a buffer that has an outcome

module _ (start : List ℕ) (patches : List (List ℕ)) (limit : ℕ) (reply : Reply) (before buffer : List ℕ) (has_result : reply.status ≡ status_result) (enough : reply.length ≤ length before) where
  outcome_held : (answer : ExportAnswer) → OfCall limit (replay_texts start patches) answer → IsReply (report_of answer) reply before buffer → HoldsText (IsReplayText start patches) reply buffer
  outcome_held (answer_text outcome) is replied = text_held (IsReplayText start patches) reply before buffer enough outcome is.0 replied
  outcome_held (answer_conflict first second total array) is replied = absurd (no_conflict (sym replied.status ∙ has_result))
  outcome_held (answer_document why place) is replied = absurd (of_document why place (sym replied.status ∙ has_result))
  outcome_held (answer_patch number why place) is replied = absurd (of_patch number why place (sym replied.status ∙ has_result))
  outcome_held (answer_fault why) is replied = absurd (no_result why (sym replied.status ∙ has_result))
  outcome_held (not_utf8 offset) is replied = absurd is

  shown_held : (answer : HandleAnswer) (handle after : Option HeldReplica) → HandleFollows start patches handle → OfStarted (ShowsDocument limit) handle answer after
      → IsReply (report_of_handle limit a_document answer) reply before buffer → HoldsText (IsReplayText start patches) reply buffer
  shown_held answer None after follows is replied = absurd follows
  shown_held answer (Some r) None follows is replied = absurd is
  shown_held answer (Some r) (Some s) follows is replied =
      result_held (IsReplayText start patches) reply before buffer enough limit answer replied has_result
      (λ written same. let shows : ShowsDocument limit r (handle_text written) s = subst (λ (a : HandleAnswer). ShowsDocument limit r a s) same is in shows.3 start patches follows)
      (λ array same. subst (λ (a : HandleAnswer). ShowsDocument limit r a s) same is)

holds_outcome : (start : List ℕ) (patches : List (List ℕ)) (reply : Reply) (buffer : List ℕ) → GaveDocument start patches reply buffer → HoldsText (IsReplayText start patches) reply buffer
holds_outcome start patches reply buffer (inl has) =
    outcome_held start patches has.limit reply has.before buffer has.has.status has.has.enough has.replied.0 has.replied.1 has.replied.2
holds_outcome start patches reply buffer (inr has) =
    shown_held start patches has.limit reply has.before buffer has.has.status has.has.enough has.replied.0 has.handle has.after has.follows has.replied.1 has.replied.2

pub agree : OneReplayText → ReplaysAgreeInTheirBuffers
agree one_replay start other_start patches others reply other buffer other_buffer same_start same has other_has =
    let this = holds_outcome start patches reply buffer has in
    let that = holds_outcome other_start others other other_buffer other_has in
    held_alike reply other buffer other_buffer this that (one_replay start other_start patches others this.written that.written same_start same this.is that.is)
