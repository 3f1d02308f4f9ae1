-- What is said of a conflict: the places that are shown, or nothing.
use Rattle.std.proofs.Common.{◌≡◌, ℕ, List, Option, Some, None, Ok, Err, Result, IfOk, subst}
use Rattle.std.specs.Result.{result_ok}
use Rattle.std.specs.declared.alloc.AllocError.{AllocError}
use Rattle.mp_pointer.specs.Spelling.{Tokens}
use Rattle.mp_texts.specs.Lines.{conflict_text}
use Rattle.mp_texts.specs.PlacesTexts.{AreShown}
use Rattle.mp_c.specs.OnHandles.{AreShownOrNone}
use Rattle.mp_c.specs.Private.Reporting.{Lists, WritesConflict}
use Rattle.mp_c.specs.Replies.{IsReply}
use Rattle.mp_c.specs.Report.{report_of_said, rest_of}
use Rattle.mp_c.specs.declared.replying.Clash.{Clash}
use Rattle.mp_c.specs.declared.replying.Listing.{Listing}
use Rattle.mp_c.specs.declared.replying.Reply.{Reply}

-- the text shows some of the places
abbrev Shows : ℕ → List Tokens → Clash → Listing → Type 0
Shows limit places clash said = (shown : List Tokens) × AreShown limit places shown × Lists said (conflict_text clash.numbers shown (rest_of clash.more clash.total shown)) shown

pub said_or_none : (limit : ℕ) (places : List Tokens) (clash : Clash) (given : Result Listing AllocError) (said : Option Listing) (reply : Reply) (out out' : List ℕ) → said ≡ result_ok given → IfOk given (Shows limit places clash)
    → WritesConflict clash said reply out out' → (shown : Option (List Tokens)) × AreShownOrNone limit places shown × IsReply (report_of_said clash.numbers clash.total clash.more shown) reply out out'
said_or_none limit places clash (Ok text) said reply out out' is (shown, are, lists) writes = (Some shown, are, subst (λ o. WritesConflict clash o reply out out') is writes shown lists)
said_or_none limit places clash (Err refused) said reply out out' is none writes = (None, tt, subst (λ o. WritesConflict clash o reply out out') is writes)
