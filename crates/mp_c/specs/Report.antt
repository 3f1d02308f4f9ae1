-- What is reported to C of an answer: a status, numbers and a text, as the table of the header has them. The text of an error is its line,
-- and after it the array of its places.
use Rattle.std.specs.Prelude.{if◌then◌else◌, ◌-◌, ◌++◌, ◌∷◌, ℕ, Bool, true, false, List, [], Option, None, Some, codes, length, nat_lt}
use Rattle.mp_tree.specs.declared.fault.ReadFault.{ReadFault}
use Rattle.mp_tree.specs.declared.fault.ReadFault.TheVariants as read
use Rattle.mp_pointer.specs.Spelling.{Tokens}
use Rattle.mp_pointer.specs.declared.fault.PointerFault.{PointerFault}
use Rattle.mp_pointer.specs.declared.fault.PointerFault.TheVariants as pointer
use Rattle.mp_pointer.specs.Part.{numeral}
use Rattle.mp_patch.specs.declared.fault.ApplyFault.{ApplyFault}
use Rattle.mp_patch.specs.declared.fault.ApplyFault.TheVariants as apply
use Rattle.mp_patch.specs.declared.fault.FormFault.{FormFault}
use Rattle.mp_patch.specs.declared.fault.FormFault.TheVariants as form
use Rattle.mp_merge.specs.declared.comparing.Conflicts.{Conflicts}
use Rattle.mp_merge.specs.declared.fault.ListFault.{ListFault}
use Rattle.mp_merge.specs.declared.fault.ListFault.TheVariants as list
use Rattle.mp_tree.specs.Text.{text as compact}
use Rattle.mp_texts.specs.Answers.{places_list}
use Rattle.mp_texts.specs.Lines.{apply_line, conflict_text, form_line, list_text, missing, placed_line, pointer_line, texts_line, too_large}
use Rattle.mp_texts.specs.declared.fault.TextsFault.{TextsFault}
use Rattle.mp_texts.specs.declared.fault.TextsFault.TheVariants as texts
use Rattle.mp_replica.specs.declared.fault.LiveFault.{LiveFault}
use Rattle.mp_replica.specs.declared.fault.LiveFault.TheVariants as live
use Rattle.mp_c.specs.Answered.{ExportAnswer, answer_text, answer_conflict, answer_document, answer_patch, answer_fault}
use Rattle.mp_c.specs.Answered.{not_utf8}
use Rattle.mp_c.specs.OnHandles.{HandleAnswer, handle_text, handle_conflict, handle_first_pairs, handle_first_places, handle_unread, handle_fault, handle_not_utf8}
use Rattle.mp_c.specs.OnHandles.{handle_not_started}
use Rattle.mp_c.specs.OnLogs.{DecideAnswer, decide_begun, decide_conflict, decide_last, decide_missing, decide_no_memory, decide_not_started}

-- ---- the status

-- there is a result
abbrev pub status_result : ℕ
status_result = 0

-- two merge patches clash
abbrev pub status_conflict : ℕ
status_conflict = 1

-- there is no patch to join
abbrev pub status_no_patches : ℕ
status_no_patches = 2

-- an operation of the JSON Patch is refused, or a new start is
abbrev pub status_refused : ℕ
status_refused = 3

-- the document has no part there, or under an identity no patch is stored
abbrev pub status_missing : ℕ
status_missing = 4

-- the document, or the start, is not a document
abbrev pub status_document : ℕ
status_document = 5

-- a patch is not a document
abbrev pub status_patch : ℕ
status_patch = 6

-- a document is not a JSON Patch
abbrev pub status_form : ℕ
status_form = 7

-- the text is not a pointer
abbrev pub status_pointer : ℕ
status_pointer = 8

-- memory ran out
abbrev pub status_no_memory : ℕ
status_no_memory = 9

-- a patch is received, or taken, and memory ran out before it can be shown
abbrev pub status_pending : ℕ
status_pending = 10

-- the result, or something on the way to it, is larger than the caller allows
abbrev pub status_too_large : ℕ
status_too_large = 11

-- there is no replica, or no patch log, yet
abbrev pub status_not_started : ℕ
status_not_started = 12

-- ---- what is reported

-- `places` is how many bytes at the end of the text are the array of places
pub record Report : Type 0 where
  pub status : ℕ
  pub first : ℕ
  pub second : ℕ
  pub total : ℕ
  pub places : ℕ
  pub flags : ℕ
  pub text : List ℕ

-- a number that says nothing is 0
abbrev pub numbered : ℕ → ℕ → List ℕ → Report
numbered status number line =
    record { status = status; first = number; second = 0; total = 0; places = 0; flags = 0; text = line }

abbrev pub unnumbered : ℕ → List ℕ → Report
unnumbered status line = numbered status 0 line

-- out of memory, wherever it comes from: no text, so that nothing is written
abbrev pub no_memory : Report
no_memory = unnumbered status_no_memory []

-- there is more than what is reported
abbrev pub flag_more : ℕ
flag_more = 1

abbrev pub flags_of : Bool → ℕ
flags_of true = flag_more
flags_of false = 0

-- the text of a result on a handle; none of one that has more bytes than the caller allows
abbrev pub report_of_text : ℕ → List ℕ → Report
report_of_text limit result =
    if nat_lt limit (length result) then numbered status_too_large 0 too_large else unnumbered status_result result

abbrev pub with_more : Report → Report
with_more r = record { status = r.status; first = r.first; second = r.second; total = r.total; places = r.places; flags = flag_more; text = r.text }

-- the same of what comes first of a result that has more
abbrev pub report_of_first : ℕ → List ℕ → Report
report_of_first limit result =
    if nat_lt limit (length result) then numbered status_too_large 0 too_large else with_more (unnumbered status_result result)

-- ---- places after a line

-- the line, and after it the array of the places that are shown, of so many in all
abbrev pub listing : Report → ℕ → List Tokens → Report
listing r total shown = let array = compact (places_list shown) in
    record { status = r.status; first = r.first; second = r.second; total = total; places = length array; flags = r.flags; text = r.text ++ array }

-- of a text that is no document, the place of the value for which it is none, if there is one
abbrev pub placed : Report → Option Tokens → Report
placed r None = r
placed r (Some place) = listing r 1 (place ∷ [])

-- ---- conflicts

abbrev pub first_number : Option (ℕ × ℕ) → ℕ
first_number None = 0
first_number (Some numbers) = numbers.0

abbrev pub second_number : Option (ℕ × ℕ) → ℕ
second_number None = 0
second_number (Some numbers) = numbers.1

-- two patches clash, by their numbers if they have any, at so many places, or at more
abbrev pub conflict_report : Option (ℕ × ℕ) → ℕ → Bool → List ℕ → Report
conflict_report numbers total more line =
    record { status = status_conflict; first = first_number numbers; second = second_number numbers; total = total; places = 0; flags = flags_of more; text = line }

-- how many places are not among those that are shown, if that is known
abbrev pub rest_of : Bool → ℕ → List Tokens → Option ℕ
rest_of true total shown = None
rest_of false total shown = Some (total - length shown)

abbrev pub report_of_conflict : Option (ℕ × ℕ) → ℕ → Bool → List Tokens → Report
report_of_conflict numbers total more shown =
    listing (conflict_report numbers total more (conflict_text numbers shown (rest_of more total shown))) total shown

-- the same, or no text if there was no memory for it
abbrev pub report_of_said : Option (ℕ × ℕ) → ℕ → Bool → Option (List Tokens) → Report
report_of_said numbers total more None = conflict_report numbers total more []
report_of_said numbers total more (Some shown) = report_of_conflict numbers total more shown

-- ---- the line of each error, and the number in it

abbrev pub report_of_read : ReadFault → Report → Report
report_of_read read.OutOfMemory report = no_memory
report_of_read why report = report

-- a text that is no document, with the place of the value for which it is none
abbrev pub report_of_document : ReadFault → Option Tokens → Report
report_of_document why place =
    report_of_read why (placed (unnumbered status_document (placed_line (texts_line (texts.Document why)) place)) place)

abbrev pub report_of_patch : ℕ → ReadFault → Option Tokens → Report
report_of_patch number why place =
    report_of_read why (placed (numbered status_patch number (placed_line (texts_line (texts.Patch number why)) place)) place)

-- where patches conflict has a report of its own
abbrev pub report_of_list : ListFault Conflicts → Report
report_of_list list.OutOfMemory = no_memory
report_of_list (list.ConflictOf first second conflicts) =
    report_of_conflict (Some (first, second)) conflicts.total false conflicts.places.items
report_of_list list.NoPatches = unnumbered status_no_patches (list_text list.NoPatches)

-- the number of the operation
abbrev pub report_of_form : FormFault → Report
report_of_form (form.Form number cause) = numbered status_form number (form_line (form.Form number cause))
report_of_form form.NotAnArray = unnumbered status_form (form_line form.NotAnArray)
report_of_form form.OutOfMemory = no_memory

abbrev pub report_of_apply : ApplyFault → Report
report_of_apply (apply.Refused number cause) = numbered status_refused number (apply_line (apply.Refused number cause))
report_of_apply apply.OutOfMemory = no_memory

-- the offset of the tilde
abbrev pub report_of_pointer : PointerFault → Report
report_of_pointer pointer.NoSlash = unnumbered status_pointer (pointer_line pointer.NoSlash)
report_of_pointer (pointer.BadTilde offset) = numbered status_pointer offset (pointer_line (pointer.BadTilde offset))
report_of_pointer pointer.OutOfMemory = no_memory

abbrev pub report_of_utf8 : ℕ → Report
report_of_utf8 offset = numbered status_pointer offset (codes "pointer: not UTF-8 at " ++ numeral offset)

-- an error that is reported with a place, or with places, has an answer of its own
abbrev pub report_of_fault : TextsFault → Report
report_of_fault (texts.Document why) = report_of_document why None
report_of_fault (texts.Patch number why) = report_of_patch number why None
report_of_fault (texts.List why) = report_of_list why
report_of_fault (texts.Form why) = report_of_form why
report_of_fault (texts.Refused why) = report_of_apply why
report_of_fault (texts.Pointer why) = report_of_pointer why
report_of_fault texts.Missing = unnumbered status_missing missing
report_of_fault (texts.TooLarge number) = numbered status_too_large number too_large
report_of_fault texts.OutOfMemory = no_memory

abbrev pub report_of : ExportAnswer → Report
report_of (answer_text result) = unnumbered status_result result
report_of (answer_conflict first second total shown) = report_of_conflict (Some (first, second)) total false shown
report_of (answer_document why place) = report_of_document why place
report_of (answer_patch number why place) = report_of_patch number why place
report_of (answer_fault why) = report_of_fault why
report_of (not_utf8 offset) = report_of_utf8 offset

-- ---- of calls on handles

-- what a text has to be: a document, or a patch of that number
abbrev pub a_document : Option ℕ
a_document = None

abbrev pub a_patch : Option ℕ
a_patch = Some 0

abbrev pub report_of_unread : Option ℕ → ReadFault → Option Tokens → Report
report_of_unread None why place = report_of_document why place
report_of_unread (Some number) why place = report_of_patch number why place

abbrev pub not_started : Report
not_started = unnumbered status_not_started (codes "not started")

abbrev pub report_of_live_fault : Option ℕ → LiveFault → Report
report_of_live_fault unread (live.Document why) = report_of_unread unread why None
report_of_live_fault unread (live.Pointer why) = report_of_pointer why
report_of_live_fault unread live.Missing = unnumbered status_missing missing
report_of_live_fault unread live.NoPatches = report_of_list list.NoPatches
report_of_live_fault unread live.Conflict = report_of_said None 0 true None
report_of_live_fault unread live.Pending = unnumbered status_pending (codes "pending")
report_of_live_fault unread live.TooLarge = unnumbered status_too_large too_large
report_of_live_fault unread live.NotKept = unnumbered status_document (codes "not kept patches")
report_of_live_fault unread live.OutOfMemory = no_memory

abbrev pub report_of_handle : ℕ → Option ℕ → HandleAnswer → Report
report_of_handle limit unread (handle_text result) = report_of_text limit result
report_of_handle limit unread (handle_conflict total said) = report_of_said None total false said
report_of_handle limit unread (handle_first_places total said) = report_of_said None total true said
report_of_handle limit unread (handle_first_pairs result) = report_of_first limit result
report_of_handle limit unread (handle_unread why place) = report_of_unread unread why place
report_of_handle limit unread (handle_fault why) = report_of_live_fault unread why
report_of_handle limit unread (handle_not_utf8 offset) = report_of_utf8 offset
report_of_handle limit unread handle_not_started = not_started

-- ---- of decisions

-- the numbers are those at which identities stand among the chosen
abbrev pub report_of_decide : DecideAnswer → Report
report_of_decide decide_begun = unnumbered status_result []
report_of_decide (decide_conflict first second total said) = report_of_said (Some (first, second)) total false said
report_of_decide (decide_missing number) = numbered status_missing number missing
report_of_decide decide_last = unnumbered status_refused (codes "no number is left for a start")
report_of_decide decide_no_memory = no_memory
report_of_decide decide_not_started = not_started
