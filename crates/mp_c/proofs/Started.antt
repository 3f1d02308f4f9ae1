-- What a call on a handle leaves, of what it did and of what is reported.
use Rattle.std.proofs.Common.{◌≡◌, ℕ, List, Option, None, Some, Ok, Err, Result, String, inl, inr, sym, subst}
use Rattle.mp_tree.specs.Text.{document_in}
use Rattle.mp_tree.specs.declared.fault.ReadFault.{ReadFault}
use Rattle.mp_replica.specs.Faults.{IsUnread}
use Rattle.mp_replica.specs.declared.fault.LiveFault.{LiveFault}
use Rattle.mp_replica.specs.declared.fault.LiveFault.TheVariants as live
use Rattle.mp_tree.specs.Look.{Path}
use Rattle.mp_c.specs.Answered.{IsPlaceIn}
use Rattle.mp_c.specs.OnHandles.{HandleAnswer, OfStarted, SaysUnread, handle_fault, handle_not_started, handle_unread}
use Rattle.mp_pointer.specs.declared.fault.PointerFault.{PointerFault}
use Rattle.mp_c.specs.Private.Reporting.{ReportsLive, ReportsRead, ReportsUnreadText, live_answer}
use Rattle.mp_c.specs.Replies.{HandleReplies, IsReply}
use Rattle.mp_c.specs.Report.{a_document, report_of_handle, report_of_unread}
use Rattle.mp_c.specs.declared.replying.Reply.{Reply}

module _ (limit : ℕ) (unread : Option ℕ) (Is : HandleAnswer → Type 0) (reply : Reply) (out out' : List ℕ) where
  -- of a text that is no document it is said why
  pub reported_unread : (text : List ℕ) (why : LiveFault) → IsUnread why text → ReportsUnreadText unread text why reply out out' → ((why : ReadFault) (place : Option Path) → SaysUnread text why place → Is (handle_unread why place))
      → Is (handle_fault live.OutOfMemory) → HandleReplies limit unread Is reply out out'
  reported_unread text (live.Document why) is (inl (place, at, replied)) says none = by why is at replied
    where
      by : (why : ReadFault) → document_in text ≡ Err why → IsPlaceIn why text place → IsReply (report_of_unread unread why place) reply out out' → HandleReplies limit unread Is reply out out'
      by why is at replied = (handle_unread why place, says why place (is, at), replied)
  reported_unread text (live.Document why) is (inr replied) says none = (handle_fault live.OutOfMemory, none, replied)
  reported_unread text live.OutOfMemory is replied says none = (handle_fault live.OutOfMemory, none, replied)
  reported_unread text why is replied says none = absurd is

  -- an error, or there was no memory for its line
  pub live_replied : (why : LiveFault) → Is (handle_fault why) → Is (handle_fault live.OutOfMemory) → ReportsLive unread why reply out out' → HandleReplies limit unread Is reply out out'
  live_replied (live.Document why) is none (inl replied) = (handle_fault (live.Document why), is, replied)
  live_replied (live.Document why) is none (inr replied) = (handle_fault live.OutOfMemory, none, replied)
  live_replied (live.Pointer why) is none (inl replied) = (handle_fault (live.Pointer why), is, replied)
  live_replied (live.Pointer why) is none (inr replied) = (handle_fault live.OutOfMemory, none, replied)
  live_replied why is none replied = (handle_fault why, is, replied)

-- what is read, or why it is not
pub read_replied : {B : Type 0} (limit : ℕ) (Is : HandleAnswer → Type 0) (reply : Reply) (out out' : List ℕ) (given : Result (String B) LiveFault) → Is (live_answer given) → Is (handle_fault live.OutOfMemory) → ReportsRead limit given reply out out'
    → HandleReplies limit a_document Is reply out out'
read_replied limit Is reply out out' (Ok text) is none replied = (live_answer (Ok text), is, replied)
read_replied limit Is reply out out' (Err why) is none replied = live_replied limit a_document Is reply out out' why is none replied

module _ {A : Type 0} (Does : A → HandleAnswer → A → Type 0) (limit : ℕ) (unread : Option ℕ) (old new : Option A) (reply : Reply) (out out' : List ℕ) where
  -- nothing was held
  pub not_started : old ≡ None → new ≡ None → IsReply (report_of_handle limit unread handle_not_started) reply out out' → HandleReplies limit unread (λ a. OfStarted Does old a new) reply out out'
  not_started none left replied = (handle_not_started, subst (λ (o : Option A). OfStarted Does o handle_not_started new) (sym none) (subst (λ (n : Option A). OfStarted Does None handle_not_started n) (sym left) tt), replied)

  -- what was held is put back
  pub put_back : (before after : A) (answer : HandleAnswer) → old ≡ Some before → new ≡ Some after → Does before answer after → IsReply (report_of_handle limit unread answer) reply out out'
      → HandleReplies limit unread (λ a. OfStarted Does old a new) reply out out'
  put_back before after answer was is does replied =
      (answer, subst (λ (o : Option A). OfStarted Does o answer new) (sym was) (subst (λ (n : Option A). OfStarted Does (Some before) answer n) (sym is) does), replied)

-- ---- what is read

-- no error whose line takes memory
pub record IsPlain {A : Type 0} (Does : A → HandleAnswer → A → Type 0) : Type 0 where
  pub read : (before after : A) (why : ReadFault) → ¬ Does before (handle_fault (live.Document why)) after
  pub spelled : (before after : A) (why : PointerFault) → ¬ Does before (handle_fault (live.Pointer why)) after

module _ {A B : Type 0} (Does : A → HandleAnswer → A → Type 0) (plain : IsPlain Does) (limit : ℕ) (given : Result (String B) LiveFault) (reply : Reply) (out out' : List ℕ) where
  -- then what it gives is reported as it is
  pub plainly_reported : (before after : A) → Does before (live_answer given) after → ReportsRead limit given reply out out' → IsReply (report_of_handle limit a_document (live_answer given)) reply out out'
  plainly_reported before after = by given
    where
      by : (r : Result (String B) LiveFault) → Does before (live_answer r) after → ReportsRead limit r reply out out' → IsReply (report_of_handle limit a_document (live_answer r)) reply out out'
      by (Ok text) does replied = replied
      by (Err (live.Document why)) does replied = absurd (plain.read before after why does)
      by (Err (live.Pointer why)) does replied = absurd (plain.spelled before after why does)
      by (Err why) does replied = replied

  -- a call that reads what was held, and puts it back
  pub read_back : (old new : Option A) (before held after : A) → old ≡ Some before → held ≡ before → new ≡ Some after → Does held (live_answer given) after → ReportsRead limit given reply out out'
      → HandleReplies limit a_document (λ a. OfStarted Does old a new) reply out out'
  read_back old new before held after was same is does replied =
      let done = subst (λ r. Does r (live_answer given) after) same does in
      put_back Does limit a_document old new reply out out' before after (live_answer given) was is done (plainly_reported before after done replied)
