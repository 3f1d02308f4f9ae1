-- That an export reports an answer that its call can give.
use Rattle.std.proofs.Common.{◌≡◌, ◌≢◌, ℕ, List, [], Result, Ok, Err, MatchResult, String, string_bytes, inl, inr, subst, sym}
use Rattle.std.specs.Str.{IsUtf8}
use Rattle.mp_tree.specs.Text.{document_in}
use Rattle.mp_tree.specs.declared.fault.ReadFault.{ReadFault}
use Rattle.mp_tree.specs.declared.fault.ReadFault.TheVariants as read
use Rattle.mp_merge.specs.declared.fault.ListFault.TheVariants as list
use Rattle.mp_texts.specs.Calls.{Call, MayConflict, MayFail, MayReturn, join_texts, merge_texts, part_text, patch_text, replay_texts, rewrite_text}
use Rattle.mp_texts.specs.declared.fault.TextsFault.{TextsFault}
use Rattle.mp_texts.specs.declared.fault.TextsFault.TheVariants.{Document as NoDocument, Patch, List as OfList, OutOfMemory}
use Rattle.mp_c.specs.Answered.{ExportAnswer, answer_text, answer_conflict, answer_document, answer_patch, answer_fault, not_utf8, IsOther, IsPart, IsPlaceIn, OfCall, call_document, call_patches}
use Rattle.mp_c.specs.Private.Reporting.{Reports, ReportsCall, ReportsUnread}
use Rattle.mp_c.specs.Replies.{Replies}
use Rattle.mp_c.specs.Report.{report_of_document, report_of_fault, report_of_utf8}
use Rattle.mp_c.specs.declared.replying.Reply.{Reply}

-- ---- what is reported of what the call gave is an answer of it

-- each call may run out of memory
memory : (limit : ℕ) (call : Call) → MayFail limit call OutOfMemory
memory limit (join_texts patches) = tt
memory limit (replay_texts start patches) = tt
memory limit (merge_texts document patches) = tt
memory limit (rewrite_text document patch) = tt
memory limit (patch_text document json_patch) = tt
memory limit (part_text document pointer) = tt

conflict : (limit : ℕ) (call : Call) (first second : ℕ) (conflicts : _) → MayFail limit call (OfList (list.ConflictOf first second conflicts)) → MayConflict limit call first second conflicts.places.items conflicts.total
conflict limit (join_texts patches) first second conflicts is = (is.1, is.2, is.3)
conflict limit (replay_texts start patches) first second conflicts is = (is.1, (is.2, is.3, is.4))
conflict limit call first second conflicts is = absurd is

abbrev May : {A : Type 0} → ℕ → Call → Result (String A) TextsFault → Type 0
May limit call given = MatchResult given (λ s. MayReturn limit call (string_bytes s)) (λ why. MayFail limit call why)

-- an error without a place, or there was no memory for its line
no_place : (limit : ℕ) (call : Call) (why : TextsFault) (reply : Reply) (before after : List ℕ) → IsOther why → MayFail limit call why → Reports (report_of_fault why) reply before after → Replies (OfCall limit call) reply before after
no_place limit call why reply before after other may (inl report) = (answer_fault why, (other, may), report)
no_place limit call why reply before after other may (inr report) = (answer_fault OutOfMemory, (tt, memory limit call), report)

pub replied : {A : Type 0} (limit : ℕ) (call : Call) (given : Result (String A) TextsFault) (reply : Reply) (before after : List ℕ) → May limit call given
    → ReportsCall limit (call_document call) (call_patches call) given reply before after → Replies (OfCall limit call) reply before after
replied limit call (Ok s) reply before after may report = (answer_text (string_bytes s), may, report)
replied limit call (Err (NoDocument why)) reply before after may (inl (place, at, report)) = (answer_document why place, (may, at), report)
replied limit call (Err (NoDocument why)) reply before after may (inr report) = (answer_fault OutOfMemory, (tt, memory limit call), report)
replied limit call (Err (Patch number why)) reply before after may (inl (place, at, report)) = (answer_patch number why place, (may, at), report)
replied limit call (Err (Patch number why)) reply before after may (inr report) = (answer_fault OutOfMemory, (tt, memory limit call), report)
replied limit call (Err (OfList (list.ConflictOf first second conflicts))) reply before after may (inl (shown, at, report)) =
    (answer_conflict first second conflicts.total shown, (conflicts.places.items, conflict limit call first second conflicts may, at), report)
replied limit call (Err (OfList (list.ConflictOf first second conflicts))) reply before after may (inr report) = (answer_fault OutOfMemory, (tt, memory limit call), report)
replied limit call (Err (OfList list.NoPatches)) reply before after may report = no_place limit call (OfList list.NoPatches) reply before after tt may report
replied limit call (Err (OfList list.OutOfMemory)) reply before after may report = no_place limit call (OfList list.OutOfMemory) reply before after tt may report
replied limit call (Err why) reply before after may report = no_place limit call why reply before after tt may report

-- ---- parts

pub part_of_call : (limit : ℕ) (document pointer : List ℕ) (a : ExportAnswer) → IsUtf8 pointer → OfCall limit (part_text document pointer) a → IsPart limit document pointer a
part_of_call limit document pointer (answer_document why place) utf8 is = is
part_of_call limit document pointer (not_utf8 offset) utf8 is = absurd is
part_of_call limit document pointer (answer_fault OutOfMemory) utf8 is = tt
part_of_call limit document pointer a utf8 is = (utf8, is)

-- the pointer is text
pub part_replied : {A : Type 0} (limit : ℕ) (given : Result (String A) TextsFault) (document pointer spelling : List ℕ) (reply : Reply) (before after : List ℕ) → spelling ≡ pointer → IsUtf8 pointer
    → May limit (part_text document spelling) given → ReportsCall limit document [] given reply before after → Replies (IsPart limit document pointer) reply before after
part_replied limit given document pointer spelling reply before after same utf8 may reports =
    let (a, of_spelling, report) = replied limit (part_text document spelling) given reply before after may reports in
    (a, part_of_call limit document pointer a utf8 (subst (λ (p : List ℕ). OfCall limit (part_text document p) a) same of_spelling), report)

-- the document is none
pub no_document : (limit : ℕ) (why : ReadFault) (document pointer : List ℕ) (reply : Reply) (before after : List ℕ) → (why ≢ read.OutOfMemory → document_in document ≡ Err why)
    → ReportsUnread (report_of_document why) (IsPlaceIn why document) reply before after → Replies (IsPart limit document pointer) reply before after
no_document limit read.NotJson document pointer reply before after is (inl (place, at, report)) = (answer_document read.NotJson place, (is (λ e. cc), at), report)
no_document limit read.NotWhole document pointer reply before after is (inl (place, at, report)) = (answer_document read.NotWhole place, (is (λ e. cc), at), report)
no_document limit read.TooDeep document pointer reply before after is (inl (place, at, report)) = (answer_document read.TooDeep place, (is (λ e. cc), at), report)
no_document limit read.OutOfMemory document pointer reply before after is (inl (place, at, report)) = (answer_fault OutOfMemory, tt, report)
no_document limit why document pointer reply before after is (inr report) = (answer_fault OutOfMemory, tt, report)

-- the pointer is not text
pub not_utf8_replied : (limit : ℕ) (document pointer : List ℕ) (offset : ℕ) (reply : Reply) (before after : List ℕ) → IsPart limit document pointer (not_utf8 offset) → Reports (report_of_utf8 offset) reply before after → Replies (IsPart limit document pointer) reply before after
not_utf8_replied limit document pointer offset reply before after is (inl report) = (not_utf8 offset, is, report)
not_utf8_replied limit document pointer offset reply before after is (inr report) = (answer_fault OutOfMemory, tt, report)

-- ---- a reply by another name

pub renamed : (IsAnswer : ExportAnswer → Type 0) (reply same : Reply) (before after out : List ℕ) → reply ≡ same → after ≡ out
    → Replies IsAnswer same before out → Replies IsAnswer reply before after
renamed IsAnswer reply same before after out is_reply is_out replies =
    subst (λ (r : Reply). Replies IsAnswer r before after) (sym is_reply) (subst (λ (o : List ℕ). Replies IsAnswer same before o) (sym is_out) replies)
