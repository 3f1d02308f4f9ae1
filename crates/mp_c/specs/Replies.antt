-- What a call leaves: its reply, and the caller's buffer.
use Rattle.std.specs.Prelude.{◌≡◌, ◌++◌, ℕ, List, Option, length, take, drop}
use Rattle.mp_c.specs.Answered.{ExportAnswer}
use Rattle.mp_c.specs.OnHandles.{HandleAnswer}
use Rattle.mp_c.specs.OnLogs.{DecideAnswer}
use Rattle.mp_c.specs.Report.{Report, report_of, report_of_decide, report_of_handle}
use Rattle.mp_c.specs.declared.replying.Reply.{Reply}

-- the buffer begins with as much of the text as it holds, and after that it is as it was
abbrev pub buffer_after : List ℕ → List ℕ → List ℕ
buffer_after before written = take (length before) written ++ drop (length written) before

-- the reply has the status, the numbers and the length of the whole text; what has no meaning is 0
pub record IsReply (report : Report) (reply : Reply) (before after : List ℕ) : Type 0 where
  pub status : reply.status ≡ report.status
  pub first : reply.first ≡ report.first
  pub second : reply.second ≡ report.second
  pub total : reply.total ≡ report.total
  pub places : reply.places ≡ report.places
  pub flags : reply.flags ≡ report.flags
  pub whole : reply.length ≡ length report.text
  pub buffer : after ≡ buffer_after before report.text

-- an answer that the call can give is reported
abbrev pub Replies : (ExportAnswer → Type 0) → Reply → List ℕ → List ℕ → Type 0
Replies IsAnswer reply before after =
    (answer : ExportAnswer) × IsAnswer answer × IsReply (report_of answer) reply before after

-- so is one of a call on a handle, the text of a result within the limit
abbrev pub HandleReplies : ℕ → Option ℕ → (HandleAnswer → Type 0) → Reply → List ℕ → List ℕ → Type 0
HandleReplies limit unread IsAnswer reply before after =
    (answer : HandleAnswer) × IsAnswer answer × IsReply (report_of_handle limit unread answer) reply before after

-- and one of a decision
abbrev pub DecideReplies : (DecideAnswer → Type 0) → Reply → List ℕ → List ℕ → Type 0
DecideReplies IsAnswer reply before after =
    (answer : DecideAnswer) × IsAnswer answer × IsReply (report_of_decide answer) reply before after
