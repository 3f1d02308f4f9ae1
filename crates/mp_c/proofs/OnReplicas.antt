-- What calls on the handle of a replica answer, of what the calls on the replica say.
use Rattle.std.proofs.Common.{◌≡◌, ◌≤◌, ℕ, string_bytes, String, List, None, Result, Ok, Err, IfOk, MatchOption, MatchResult, length, subst}
use Rattle.std.specs.Str.{IsUtf8}
use Rattle.mp_tree.specs.Document.{Document}
use Rattle.mp_tree.specs.Text.{text as compact}
use Rattle.mp_tree.specs.View.{document}
use Rattle.mp_tree.specs.declared.doc.Doc.{Doc}
use Rattle.std.specs.declared.alloc.AllocError.{AllocError}
use Rattle.mp_merge.specs.declared.comparing.Conflicts.{Conflicts}
use Rattle.mp_texts.specs.Answers.{IsJoinText, IsReplayText}
use Rattle.mp_replica.specs.Faults.{IsNoPart, IsNotJoined, IsUnshown}
use Rattle.mp_replica.specs.Following.{Follows}
use Rattle.mp_replica.specs.Held.{AreFirstClashesWith, HeldReplica}
use Rattle.mp_replica.specs.Texts.{FollowsTexts, IsPartOf}
use Rattle.mp_replica.specs.declared.fault.LiveFault.{LiveFault}
use Rattle.mp_replica.specs.declared.fault.LiveFault.TheVariants.{Conflict, OutOfMemory}
use Rattle.mp_replica.specs.declared.replica.Received.TheVariants as received
use Rattle.mp_c.specs.OnHandles.{HasReceived, Receives, Settles, ShowsDocument, ShowsJoin, ShowsPart, StillFollows, handle_conflict, handle_fault}
use Rattle.mp_c.specs.Private.Reporting.{ReportsConflicts, live_answer}
use Rattle.mp_c.specs.Replies.{HandleReplies}
use Rattle.mp_c.specs.Report.{a_patch}
use Rattle.mp_c.specs.declared.replying.Reply.{Reply}

-- ---- what is kept

pub still_follows : (before after : HeldReplica) → ((start : Document) (received : List Document) → Follows start received before → Follows start received after)
    → StillFollows before after
still_follows before after keeps start texts has = record {
  from = has.from;
  start_read = has.start_read;
  documents = has.documents;
  read = has.read;
  follows = keeps has.from has.documents has.follows;
}

-- ---- what is shown

module _ {A : Type 0} (limit : ℕ) (before after : HeldReplica) (settles : Settles before after) where
  pub shows_document : (r : Result (String A) LiveFault)
      → MatchResult r (λ t. (after.pending ≡ None) × (string_bytes t ≡ compact (document after.shown))) (λ why. IsUnshown limit why after)
      → IfOk r (λ t. length (string_bytes t) ≤ limit) → IfOk r (λ t. (start : List ℕ) (texts : List (List ℕ)) → FollowsTexts start texts after → IsReplayText start texts (string_bytes t))
      → ShowsDocument limit before (live_answer r) after
  shows_document (Ok t) shown within replay = (settles, shown.0, shown.1, λ start texts follows. replay start texts (settles.0 start texts follows), within)
  shows_document (Err why) shown within replay = (settles, shown)

  pub shows_join : (r : Result (String A) LiveFault)
      → MatchResult r (λ t. (after.pending ≡ None) × MatchOption after.joined ⊥ (λ j. string_bytes t ≡ compact (document j))) (λ why. IsNotJoined limit why after)
      → IfOk r (λ t. length (string_bytes t) ≤ limit) → IfOk r (λ t. (start : List ℕ) (texts : List (List ℕ)) → FollowsTexts start texts after → IsJoinText texts (string_bytes t))
      → ShowsJoin limit before (live_answer r) after
  shows_join (Ok t) joined within join = (settles, joined.0, joined.1, λ start texts follows. join start texts (settles.0 start texts follows), within)
  shows_join (Err why) joined within join = (settles, joined)

  pub shows_part : (pointer spelling : List ℕ) → spelling ≡ pointer → IsUtf8 pointer → (r : Result (String A) LiveFault)
      → MatchResult r (λ t. (after.pending ≡ None) × IsPartOf (document after.shown) spelling (string_bytes t)) (λ why. IsNoPart limit why after spelling)
      → IfOk r (λ t. length (string_bytes t) ≤ limit) → ShowsPart limit pointer before (live_answer r) after
  shows_part pointer spelling same utf8 (Ok t) part within = (settles, utf8, part.0, subst (λ (p : List ℕ). IsPartOf (document after.shown) p (string_bytes t)) same part.1, within)
  shows_part pointer spelling same utf8 (Err OutOfMemory) part within = settles
  shows_part pointer spelling same utf8 (Err why) part within = (settles, utf8, subst (IsNoPart limit why after) same part)

-- ---- conflicts

pub refuses : (limit : ℕ) (patch : List ℕ) (before after : HeldReplica) (back : Doc) (found : Result Conflicts AllocError) (reply : Reply) (out out' : List ℕ) → Receives (received.Conflict back) patch before after
    → IfOk found (λ c. (start : Document) (received : List Document) → Follows start received after → AreFirstClashesWith limit received (document back) c.places.items c.total)
    → ReportsConflicts limit found reply out out' → HandleReplies limit a_patch (λ a. HasReceived limit patch before a after) reply out out'
refuses limit patch before after back (Ok c) reply out out' receives first (said, shown, replied) = (
  handle_conflict c.total said,
  (
    (back, receives),
    λ start texts follows. let now = (receives start texts follows).1 in record {
      documents = now.documents;
      read = now.read;
      change = document back;
      patch_read = (receives start texts follows).0;
      places = c.places.items;
      first = first now.from now.documents now.follows;
      shown = shown;
    },
  ),
  replied,
)
refuses limit patch before after back (Err refused) reply out out' receives first replied = (handle_fault Conflict, (back, receives), replied)
