-- Laws over replies. Each is the contract of a function of the module `laws` that runs nothing.
use Rattle.std.specs.Prelude.{◌≡◌, ◌≢◌, ◌≤◌, ◌⊎◌, ℕ, List, MatchOption, Option, Some, length, take}
use Rattle.mp_tree.specs.Text.{document_in}
use Rattle.mp_texts.specs.Calls.{join_texts, merge_texts, patch_text, replay_texts, rewrite_text}
use Rattle.mp_texts.specs.Texts.{ReadTheSame}
use Rattle.mp_replica.specs.Held.{HeldReplica}
use Rattle.mp_replica.specs.PatchLog.{AreAlike, HeldLog}
use Rattle.mp_replica.specs.Texts.{FollowsTexts}
use Rattle.mp_c.specs.Answered.{ExportAnswer, IsPart, OfCall}
use Rattle.mp_c.specs.OnHandles.{HandleAnswer, OfStarted, ShowsDocument}
use Rattle.mp_c.specs.OnLogs.{OnlyReads}
use Rattle.mp_c.specs.Replies.{HandleReplies, IsReply, Replies, buffer_after}
use Rattle.mp_c.specs.Report.{Report, report_of, a_document, status_no_memory, status_result}
use Rattle.mp_c.specs.declared.replying.Reply.{Reply}

-- there is a result, and the buffer holds all of it
pub record HasResult (reply : Reply) (before : List ℕ) : Type 0 where
  pub status : reply.status ≡ status_result
  pub enough : reply.length ≤ length before

-- a call that replayed these texts on this start had a result, which its buffer holds
pub record HasReplayed (start : List ℕ) (texts : List (List ℕ)) (reply : Reply) (buffer : List ℕ) : Type 0 where
  pub limit : ℕ
  pub before : List ℕ
  pub replied : Replies (OfCall limit (replay_texts start texts)) reply before buffer
  pub has : HasResult reply before

-- the handle owns a replica that follows these texts
abbrev pub HandleFollows : List ℕ → List (List ℕ) → Option HeldReplica → Type 0
HandleFollows start texts handle = MatchOption handle ⊥ (FollowsTexts start texts)

-- a call showed the document of such a replica, and had a result, which its buffer holds
pub record HasShown (start : List ℕ) (texts : List (List ℕ)) (reply : Reply) (buffer : List ℕ) : Type 0 where
  pub limit : ℕ
  pub before : List ℕ
  pub handle : Option HeldReplica
  pub after : Option HeldReplica
  pub follows : HandleFollows start texts handle
  pub replied : HandleReplies limit a_document (λ answer. OfStarted (ShowsDocument limit) handle answer after) reply before buffer
  pub has : HasResult reply before

abbrev pub GaveDocument : List ℕ → List (List ℕ) → Reply → List ℕ → Type 0
GaveDocument start texts reply buffer = HasReplayed start texts reply buffer ⊎ HasShown start texts reply buffer

-- of two such calls, on starts that read as the same document and texts that read as the same documents, the buffers begin
-- with the same bytes
abbrev pub ReplaysAgreeInTheirBuffers : Type 0
ReplaysAgreeInTheirBuffers = (start other_start : List ℕ) (texts others : List (List ℕ)) (reply other : Reply)
    (buffer other_buffer : List ℕ) → document_in start ≡ document_in other_start → ReadTheSame texts others
    → GaveDocument start texts reply buffer → GaveDocument other_start others other other_buffer
    → (reply.length ≡ other.length) × (take reply.length buffer ≡ take other.length other_buffer)

-- ---- patch logs

-- a call read a patch log within its limit, and had a result of which nothing was left out, which its buffer holds
pub record HasRead (Gives : ℕ → HeldLog → HandleAnswer → Type 0) (log : HeldLog) (reply : Reply) (buffer : List ℕ) : Type 0 where
  pub limit : ℕ
  pub before : List ℕ
  pub after : Option HeldLog
  pub replied : HandleReplies limit a_document (λ answer. OfStarted (OnlyReads (Gives limit)) (Some log) answer after) reply before buffer
  pub has : HasResult reply before
  pub all : reply.flags ≡ 0

-- of two such calls on logs with one start and the same patches, each under its identity, in whatever order they arrived, the
-- buffers begin with the same bytes
abbrev pub LogsAgreeInTheirBuffers : (ℕ → HeldLog → HandleAnswer → Type 0) → Type 0
LogsAgreeInTheirBuffers Gives = (log other_log : HeldLog) (reply other : Reply) (buffer other_buffer : List ℕ)
    → AreAlike log other_log → HasRead Gives log reply buffer → HasRead Gives other_log other other_buffer
    → (reply.length ≡ other.length) × (take reply.length buffer ≡ take other.length other_buffer)

-- ---- one reply

-- what holds of each of the six exports over texts, whatever its arguments: of what it may answer within a limit
pub record OfEachExport (Holds : (ℕ → ExportAnswer → Type 0) → Type 0) : Type 0 where
  pub join : (patches : List (List ℕ)) → Holds (λ limit. OfCall limit (join_texts patches))
  pub replay : (start : List ℕ) (patches : List (List ℕ)) → Holds (λ limit. OfCall limit (replay_texts start patches))
  pub merge : (document : List ℕ) (patches : List (List ℕ)) → Holds (λ limit. OfCall limit (merge_texts document patches))
  pub rewrite : (document patch : List ℕ) → Holds (λ limit. OfCall limit (rewrite_text document patch))
  pub patch : (document json_patch : List ℕ) → Holds (λ limit. OfCall limit (patch_text document json_patch))
  pub get : (document pointer : List ℕ) → Holds (λ limit. IsPart limit document pointer)

-- the replies have the same status, numbers and length, and one text was written to both buffers, as much as fits
pub record ReportTheSame (reply other : Reply) (before after other_before other_after : List ℕ) : Type 0 where
  pub same : reply ≡ other
  pub text : List ℕ
  pub whole : reply.length ≡ length text
  pub buffer : after ≡ buffer_after before text
  pub other_buffer : other_after ≡ buffer_after other_before text

-- so do any two replies to a call with the same arguments, whatever their buffers, unless memory ran out in one
abbrev pub HasOneReply : (ℕ → ExportAnswer → Type 0) → Type 0
HasOneReply IsAnswer = (limit : ℕ) (reply other : Reply) (before after other_before other_after : List ℕ)
    → Replies (IsAnswer limit) reply before after → Replies (IsAnswer limit) other other_before other_after
    → reply.status ≢ status_no_memory → other.status ≢ status_no_memory
    → ReportTheSame reply other before after other_before other_after

abbrev pub EachHasOneReply : Type 0
EachHasOneReply = OfEachExport HasOneReply

-- so a buffer in which the text is cut is the beginning of a larger one that has the whole text
abbrev pub BeginsTheLarger : (ℕ → ExportAnswer → Type 0) → Type 0
BeginsTheLarger IsAnswer = (limit : ℕ) (reply other : Reply) (before after other_before other_after : List ℕ)
    → Replies (IsAnswer limit) reply before after → Replies (IsAnswer limit) other other_before other_after
    → reply.status ≢ status_no_memory → other.status ≢ status_no_memory
    → length before ≤ reply.length → reply.length ≤ length other_before → after ≡ take (length before) other_after

abbrev pub EachBeginsTheLarger : Type 0
EachBeginsTheLarger = OfEachExport BeginsTheLarger

-- ---- a reply exists

-- an export may report something that is not out of memory, and every reply reports that, unless memory runs out
pub record HasReport (IsAnswer : ExportAnswer → Type 0) : Type 0 where
  pub report : Report
  pub may : (answer : ExportAnswer) × IsAnswer answer × (report ≡ report_of answer)
  pub has_memory : report.status ≢ status_no_memory
  pub each : (reply : Reply) (before after : List ℕ) → Replies IsAnswer reply before after
      → reply.status ≢ status_no_memory → IsReply report reply before after

abbrev pub EachHasReport : Type 0
EachHasReport = OfEachExport (λ IsAnswer. (limit : ℕ) → HasReport (IsAnswer limit))
