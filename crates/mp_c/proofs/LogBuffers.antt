-- What is in a buffer that holds the whole text of what a patch log gives.
use Rattle.std.proofs.Common.{if◌then◌else◌, ◌≡◌, ◌∙◌, ℕ, Bool, true, false, nat_lt, inl, inr, true≢false, string_bytes, refl, List, [], ◌∷◌, ◌++◌, Result, Ok, Err, MatchResult, Option, None, Some, length, sym, ap, subst}
use Rattle.std.proofs.lemmas.List.{append-nil}
use Rattle.mp_tree.specs.Text.{text as compact}
use Rattle.mp_replica.specs.Laws.{AlikeReportTheSame, AlikeShowTheSame}
use Rattle.mp_replica.specs.Faults.{IsOutOfMemory}
use Rattle.mp_replica.specs.LogTexts.{IsConflictsTextOf, IsConflictsTextWithinOf, pairs_text}
use Rattle.mp_replica.specs.PatchLog.{AreAlike, HeldLog, Pair, Stored, stored_of}
use Rattle.mp_replica.specs.declared.pairs_texts.PairsText.{PairsText}
use Rattle.mp_c.specs.Private.Reporting.{ReportsPairs, pairs_answer, pairs_text_answer}
use Rattle.mp_replica.specs.declared.message.Identity.{Identity}
use Rattle.mp_replica.specs.declared.fault.LiveFault.{LiveFault}
use Rattle.mp_replica.specs.declared.fault.LiveFault.TheVariants as live
use Rattle.mp_texts.specs.Lines.{too_large}
use Rattle.mp_c.specs.Laws.{HasRead, LogsAgreeInTheirBuffers}
use Rattle.mp_c.specs.OnHandles.{HandleAnswer, handle_text, OfStarted}
use Rattle.mp_c.specs.OnLogs.{GivesConflicts, GivesLogDocument, OnlyReads}
use Rattle.mp_c.specs.Replies.{IsReply}
use Rattle.mp_c.specs.Report.{Report, a_document, status_result, status_too_large, report_of_first, report_of_handle, unnumbered, with_more}
use Rattle.mp_c.specs.declared.replying.Reply.{Reply}
use Rattle.mp_c.proofs.Buffers.{HoldsText, held_alike, result_held}

abbrev first_of : List ℕ → Bool → Report
first_of shown b = if b then unnumbered status_too_large too_large else with_more (unnumbered status_result shown)

-- of what comes first of a result that has more the flag says so
never_first : (limit : ℕ) (shown : List ℕ) → (report_of_first limit shown).status ≡ status_result → (report_of_first limit shown).flags ≡ 0 → ⊥
never_first limit shown = by (nat_lt limit (length shown))
  where
    by : (b : Bool) → (first_of shown b).status ≡ status_result → (first_of shown b).flags ≡ 0 → ⊥
    by true status flags = cc
    by false status flags = cc

-- what a log gives, within some limit
abbrev IsGiven : (ℕ → HeldLog → HandleAnswer → Type 0) → HeldLog → List ℕ → Type 0
IsGiven Gives log written = (limit : ℕ) × Gives limit log (handle_text written)

holds_text : (Gives : ℕ → HeldLog → HandleAnswer → Type 0) (log : HeldLog) (reply : Reply) (buffer : List ℕ) → HasRead Gives log reply buffer → HoldsText (IsGiven Gives log) reply buffer
holds_text Gives log reply buffer has = by has.after has.replied.1
  where
    by : (after : Option HeldLog) → OfStarted (OnlyReads (Gives has.limit)) (Some log) has.replied.0 after → HoldsText (IsGiven Gives log) reply buffer
    by None is = absurd is
    by (Some s) is =
        result_held (IsGiven Gives log) reply has.before buffer has.has.enough has.limit has.replied.0 has.replied.2 has.has.status (λ written same. (has.limit, subst (Gives has.limit log) same is.0))
        (λ array same. let first = subst (λ (a : HandleAnswer). IsReply (report_of_handle has.limit a_document a) reply has.before buffer) same has.replied.2 in
        never_first has.limit array (sym first.status ∙ has.has.status) (sym first.flags ∙ has.all))

-- two logs that are alike give one text
GiveOneText : (ℕ → HeldLog → HandleAnswer → Type 0) → Type 0
GiveOneText Gives = (limit within : ℕ) (log other : HeldLog) (text others : List ℕ) → AreAlike log other → Gives limit log (handle_text text) → Gives within other (handle_text others) → text ≡ others

agree_by : (Gives : ℕ → HeldLog → HandleAnswer → Type 0) → GiveOneText Gives → LogsAgreeInTheirBuffers Gives
unfolding GiveOneText
agree_by Gives one_text log other_log reply other buffer other_buffer alike has other_has =
    let this = holds_text Gives log reply buffer has in
    let that = holds_text Gives other_log other other_buffer other_has in
    held_alike reply other buffer other_buffer this that (one_text this.is.0 that.is.0 log other_log this.written that.written alike this.is.1 that.is.1)

pub agree_on_documents : AlikeShowTheSame → LogsAgreeInTheirBuffers GivesLogDocument
unfolding GiveOneText
agree_on_documents shown =
    agree_by GivesLogDocument (λ limit within log other text others alike gives also.
    gives.3 ∙ ap compact (shown log other gives.0 also.0 alike gives.1 also.1 gives.2 also.2) ∙ sym also.3)

pub agree_on_conflicts : AlikeReportTheSame → (of : Option Identity) → LogsAgreeInTheirBuffers (GivesConflicts of)
unfolding GiveOneText
agree_on_conflicts reported of =
    agree_by (GivesConflicts of) (λ limit within log other text others alike gives also.
    gives.is ∙ ap pairs_text (reported of log other gives.pairs also.pairs alike gives.are_all also.are_all) ∙ sym also.is)

-- ---- conflicts within a limit

-- where nothing is left out, it is the text of all pairs
all_written : (limit : ℕ) (of : Option Identity) (stored : Stored) (answer : List ℕ) → IsConflictsTextWithinOf limit of stored answer false → IsConflictsTextOf of stored answer
all_written limit of stored answer within = record {
  pairs = within.pairs;
  are_all = within.first.all (λ cut. true≢false (sym (within.more_is.1 (inl cut))));
  is = within.text.is ∙ ap pairs_text (by within.text.rest refl);
}
  where
    by : (rest : List Pair) → within.text.rest ≡ rest → within.text.written ≡ within.pairs
    by [] is = sym (within.text.all ∙ ap (λ t. within.text.written ++ t) is ∙ append-nil within.text.written)
    by (pair ∷ rest) is = absurd (true≢false (sym (within.more_is.1 (inr (within.text.left_out.1 (λ none. let differ = sym is ∙ none in cc))))))

pub gives_conflicts : (of : Option Identity) (limit : ℕ) (log : HeldLog) (given : Result PairsText LiveFault) → MatchResult given (λ written. IsConflictsTextWithinOf limit of (stored_of log) (string_bytes written.text) written.more) IsOutOfMemory
    → GivesConflicts of limit log (pairs_answer given)
gives_conflicts of limit log (Ok written) is = by written.more is
  where
    by : (more : Bool) → IsConflictsTextWithinOf limit of (stored_of log) (string_bytes written.text) more → GivesConflicts of limit log (pairs_text_answer more (string_bytes written.text))
    by true is = is
    by false is = all_written limit of (stored_of log) (string_bytes written.text) is
gives_conflicts of limit log (Err live.OutOfMemory) is = tt
gives_conflicts of limit log (Err why) is = absurd is

pub pairs_reported : (of : Option Identity) (limit : ℕ) (log : HeldLog) (given : Result PairsText LiveFault) (reply : Reply) (out out' : List ℕ) → GivesConflicts of limit log (pairs_answer given) → ReportsPairs limit given reply out out'
    → IsReply (report_of_handle limit a_document (pairs_answer given)) reply out out'
pairs_reported of limit log (Ok written) reply out out' gives replied = replied
pairs_reported of limit log (Err live.OutOfMemory) reply out out' gives replied = replied
pairs_reported of limit log (Err why) reply out out' gives replied = absurd gives
