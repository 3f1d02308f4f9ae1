-- What a report leaves. Only private clauses cite it.
use Rattle.std.specs.Prelude.{◌≡◌, ◌++◌, ◌⊎◌, None, Some, List, [], ℕ, Bool, true, false, Option, MatchOption, Result, Ok, Err, length, string_bytes, String}
use Rattle.std.specs.declared.alloc.AllocError.{AllocError}
use Rattle.mp_pointer.specs.Spelling.{Tokens}
use Rattle.mp_merge.specs.declared.comparing.Conflicts.{Conflicts}
use Rattle.mp_merge.specs.declared.fault.ListFault.{ListFault}
use Rattle.mp_merge.specs.declared.fault.ListFault.TheVariants.{ConflictOf}
use Rattle.mp_texts.specs.PlacesTexts.{AreShown}
use Rattle.mp_texts.specs.declared.fault.TextsFault.{TextsFault}
use Rattle.mp_texts.specs.declared.fault.TextsFault.TheVariants.{Document as NoDocument, Patch, List as OfList}
use Rattle.mp_replica.specs.Held.{HeldPatches, HeldPlaces}
use Rattle.mp_replica.specs.declared.fault.LiveFault.{LiveFault}
use Rattle.mp_replica.specs.declared.fault.LiveFault.TheVariants as live
use Rattle.mp_replica.specs.declared.pairs_texts.PairsText.{PairsText}
use Rattle.mp_replica.specs.declared.patches.Added.{Added}
use Rattle.mp_replica.specs.declared.patches.Added.TheVariants as added
use Rattle.mp_c.specs.Answered.{IsPlaceAt, IsPlaceIn}
use Rattle.mp_c.specs.OnHandles.{HandleAnswer, AreShownOrNone, handle_fault, handle_first_pairs, handle_text}
use Rattle.mp_c.specs.Replies.{IsReply}
use Rattle.mp_c.specs.Report.{Report, no_memory, report_of_conflict, report_of_document, report_of_fault, report_of_handle, report_of_list, report_of_live_fault, report_of_patch, report_of_pointer, report_of_said, report_of_text, report_of_unread, rest_of, a_document, a_patch, status_result, unnumbered}
use Rattle.mp_c.specs.declared.replying.Clash.{Clash}
use Rattle.mp_c.specs.declared.replying.Listing.{Listing}
use Rattle.mp_c.specs.declared.replying.Reply.{Reply}
use Rattle.mp_tree.specs.Text.{text as compact}
use Rattle.mp_texts.specs.Answers.{places_list}
use Rattle.mp_texts.specs.Lines.{conflict_text}

-- it is reported, or there was no memory to report it
abbrev pub Reports : Report → Reply → List ℕ → List ℕ → Type 0
Reports report reply before after = IsReply report reply before after ⊎ IsReply no_memory reply before after

-- a text that is no document is reported with the place of the value for which it is none
abbrev pub ReportsUnread : (Option Tokens → Report) → (Option Tokens → Type 0) → Reply → List ℕ → List ℕ → Type 0
ReportsUnread report IsPlace reply before after =
    ((place : Option Tokens) × IsPlace place × IsReply (report place) reply before after) ⊎ IsReply no_memory reply before after

-- a conflict is reported with those of its places that the limit allows
abbrev pub ReportsList : ℕ → ListFault Conflicts → Reply → List ℕ → List ℕ → Type 0
ReportsList limit (ConflictOf first second conflicts) reply before after =
    ((shown : List Tokens) × AreShown limit conflicts.places.items shown
    × IsReply (report_of_conflict (Some (first, second)) conflicts.total false shown) reply before after)
    ⊎ IsReply no_memory reply before after
ReportsList limit why reply before after = Reports (report_of_list why) reply before after

-- so is an error of a call over these texts
abbrev pub ReportsFault : ℕ → List ℕ → List (List ℕ) → TextsFault → Reply → List ℕ → List ℕ → Type 0
ReportsFault limit document patches (NoDocument why) reply before after =
    ReportsUnread (report_of_document why) (IsPlaceIn why document) reply before after
ReportsFault limit document patches (Patch number why) reply before after =
    ReportsUnread (report_of_patch number why) (IsPlaceAt why patches number) reply before after
ReportsFault limit document patches (OfList why) reply before after = ReportsList limit why reply before after
ReportsFault limit document patches why reply before after = Reports (report_of_fault why) reply before after

-- and what a call over these texts gave
abbrev pub ReportsCall : {A : Type 0} → ℕ → List ℕ → List (List ℕ) → Result (String A) TextsFault → Reply → List ℕ → List ℕ → Type 0
ReportsCall limit document patches (Ok result) reply before after =
    IsReply (unnumbered status_result (string_bytes result)) reply before after
ReportsCall limit document patches (Err why) reply before after = ReportsFault limit document patches why reply before after

-- the text is a line, and after it the array of these places
pub record Lists (said : Listing) (line : List ℕ) (shown : List Tokens) : Type 0 where
  pub text : string_bytes said.text ≡ line ++ compact (places_list shown)
  pub places : said.places ≡ length (compact (places_list shown))

-- a conflict with such a text, or with none
abbrev pub WritesConflict : Clash → Option Listing → Reply → List ℕ → List ℕ → Type 0
WritesConflict clash None reply before after =
    IsReply (report_of_said clash.numbers clash.total clash.more None) reply before after
WritesConflict clash (Some said) reply before after = (shown : List Tokens)
    → Lists said (conflict_text clash.numbers shown (rest_of clash.more clash.total shown)) shown
    → IsReply (report_of_conflict clash.numbers clash.total clash.more shown) reply before after

-- ---- of calls on handles

-- a line with a number in it takes memory, and no other does
abbrev pub ReportsLive : Option ℕ → LiveFault → Reply → List ℕ → List ℕ → Type 0
ReportsLive unread (live.Document why) reply before after = Reports (report_of_unread unread why None) reply before after
ReportsLive unread (live.Pointer why) reply before after = Reports (report_of_pointer why) reply before after
ReportsLive unread why reply before after = IsReply (report_of_live_fault unread why) reply before after

-- a text that is no document is reported with the place of the value for which it is none
abbrev pub ReportsUnreadText : Option ℕ → List ℕ → LiveFault → Reply → List ℕ → List ℕ → Type 0
ReportsUnreadText unread text (live.Document why) reply before after = ReportsUnread (report_of_unread unread why) (IsPlaceIn why text) reply before after
ReportsUnreadText unread text why reply before after = ReportsLive unread why reply before after

-- what a call that reads gives
abbrev pub live_answer : {A : Type 0} → Result (String A) LiveFault → HandleAnswer
live_answer (Ok result) = handle_text (string_bytes result)
live_answer (Err why) = handle_fault why

-- and what is reported of it
abbrev pub ReportsRead : {A : Type 0} → ℕ → Result (String A) LiveFault → Reply → List ℕ → List ℕ → Type 0
ReportsRead limit (Ok result) reply before after = IsReply (report_of_text limit (string_bytes result)) reply before after
ReportsRead limit (Err why) reply before after = ReportsLive a_document why reply before after

-- ---- what is reported of conflicts

-- the places at which a patch clashes with what was received; or that it does, if there was no memory for them
abbrev pub ReportsConflicts : ℕ → Result Conflicts AllocError → Reply → List ℕ → List ℕ → Type 0
ReportsConflicts limit (Ok found) reply before after =
    (said : Option (List Tokens)) × AreShownOrNone limit found.places.items said
    × IsReply (report_of_said None found.total false said) reply before after
ReportsConflicts limit (Err _) reply before after = IsReply (report_of_live_fault a_patch live.Conflict) reply before after

-- the places that were found, as many as the limit allows
abbrev pub ReportsFirstPlaces : ℕ → HeldPlaces → Reply → List ℕ → List ℕ → Type 0
ReportsFirstPlaces limit held reply before after =
    (said : Option (List Tokens)) × AreShownOrNone limit held.places said
    × IsReply (report_of_said None (length held.places) held.more said) reply before after

-- where patches conflict, or nothing if they do not
abbrev pub ReportsConflict : ℕ → Option HeldPlaces → Reply → List ℕ → List ℕ → Type 0
ReportsConflict limit places reply before after =
    MatchOption places (IsReply (report_of_text limit []) reply before after)
    (λ held. ReportsFirstPlaces limit held reply before after)

-- what became of patches that were to be taken
abbrev pub ReportsAdded : ℕ → Added → HeldPatches → Reply → List ℕ → List ℕ → Type 0
ReportsAdded limit added.Joined r reply before after = IsReply (report_of_text limit []) reply before after
ReportsAdded limit added.Conflict r reply before after = ReportsConflict limit r.places reply before after
ReportsAdded limit added.Pending r reply before after =
    IsReply (report_of_live_fault a_document live.Pending) reply before after
ReportsAdded limit added.Refused r reply before after = IsReply no_memory reply before after

-- why there is no join: a conflict with its places
abbrev pub ReportsNoJoin : ℕ → LiveFault → HeldPatches → Reply → List ℕ → List ℕ → Type 0
ReportsNoJoin limit live.Conflict r reply before after = ReportsConflict limit r.places reply before after
ReportsNoJoin limit why r reply before after = ReportsLive a_document why reply before after

-- ---- what is said of pairs

abbrev pub pairs_text_answer : Bool → List ℕ → HandleAnswer
pairs_text_answer false text = handle_text text
pairs_text_answer true text = handle_first_pairs text

abbrev pub pairs_answer : Result PairsText LiveFault → HandleAnswer
pairs_answer (Ok written) = pairs_text_answer written.more (string_bytes written.text)
pairs_answer (Err why) = handle_fault why

-- and what is reported of them
abbrev pub ReportsPairs : ℕ → Result PairsText LiveFault → Reply → List ℕ → List ℕ → Type 0
ReportsPairs limit (Ok written) reply before after =
    IsReply (report_of_handle limit a_document (pairs_answer (Ok written))) reply before after
ReportsPairs limit (Err why) reply before after = ReportsLive a_document why reply before after
