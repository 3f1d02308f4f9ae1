-- What calls on patches without a start answer, of what the calls on what is held say.
use Rattle.std.proofs.Common.{◌≡◌, ◌≢◌, ◌≤◌, ℕ, Bool, true, false, List, [], ◌∷◌, ◌↔◌, Option, Some, None, MatchOption, Ok, Err, Result, IfOk, MatchResult, String, length, string_bytes, arith, refl, sym, subst}
use Rattle.std.specs.List.{All}
use Rattle.std.proofs.lemmas.List.Elements.{All-cons, All-nil}
use Rattle.mp_tree.specs.Document.{Document, IsReadable}
use Rattle.mp_tree.specs.Laws.{ReadsReadable}
use Rattle.mp_tree.specs.Text.{document_in}
use Rattle.mp_texts.specs.Texts.{AreCompatible, AreRead}
use Rattle.mp_replica.specs.Faults.{IsNoJoin, IsNoJoinText}
use Rattle.mp_replica.specs.Held.{HeldPatches, HeldPlaces}
use Rattle.mp_replica.specs.Kept.{IsKept, IsKeptText, IsNotKeptYet}
use Rattle.mp_replica.specs.Laws.{HoldsJoin}
use Rattle.mp_replica.specs.Taking.{HasTaken, TakesAll, TakesOne}
use Rattle.mp_replica.specs.Texts.{HasTakenTexts}
use Rattle.mp_replica.specs.declared.fault.LiveFault.{LiveFault}
use Rattle.mp_replica.specs.declared.fault.LiveFault.TheVariants.{Conflict, NoPatches, OutOfMemory, Pending, TooLarge}
use Rattle.mp_replica.specs.declared.patches.Added.{Added}
use Rattle.mp_replica.specs.declared.patches.Added.TheVariants as added
use Rattle.mp_c.specs.OnHandles.{HandleAnswer, handle_conflict, handle_fault, handle_first_places, handle_text, GivesJoin, GivesKept, HasAdded, HasCombined, HoldsKept, IsMadeOfKept, AreShownOrNone, OfPatches, SettlesPatches, StillTaken, patches_in}
use Rattle.mp_c.specs.Private.Reporting.{ReportsAdded, ReportsConflict, ReportsNoJoin, live_answer}
use Rattle.mp_c.specs.Report.{report_of_said}
use Rattle.mp_tree.specs.Look.{Path}
use Rattle.mp_c.specs.Replies.{HandleReplies, IsReply}
use Rattle.mp_c.specs.declared.replying.Reply.{Reply}

pub still_taken : (before after : HeldPatches) → ((taken : List Document) → HasTaken before taken → HasTaken after taken) → StillTaken before after
still_taken before after keeps texts has = record { documents = has.documents; read = has.read; taken = keeps has.documents has.taken }

-- ---- conflicts

-- all places, or the first of more; or that there is no conflict
reported_places : (limit : ℕ) (unread : Option ℕ) (Is : HandleAnswer → Type 0) (reply : Reply) (out out' : List ℕ) (places : Option HeldPlaces) → (places ≡ None → Is (handle_text []))
    → ((total : ℕ) (said : Option (List Path)) → MatchOption places ⊥ (λ held. (total ≡ length held.places) × (false ≡ held.more) × AreShownOrNone limit held.places said) → Is (handle_conflict total said))
    → ((total : ℕ) (said : Option (List Path)) → MatchOption places ⊥ (λ held. (total ≡ length held.places) × (true ≡ held.more) × AreShownOrNone limit held.places said) → Is (handle_first_places total said))
    → ReportsConflict limit places reply out out' → HandleReplies limit unread Is reply out out'
reported_places limit unread Is reply out out' None none whole part replied = (handle_text [], none refl, replied)
reported_places limit unread Is reply out out' (Some held) none whole part (said, shown, replied) = by held.more refl replied
  where
    by : (more : Bool) → more ≡ held.more → IsReply (report_of_said None (length held.places) more said) reply out out' → HandleReplies limit unread Is reply out out'
    by false is replied = (handle_conflict (length held.places) said, whole (length held.places) said (refl, is, shown), replied)
    by true is replied = (handle_first_places (length held.places) said, part (length held.places) said (refl, is, shown), replied)

-- ---- what becomes of patches

module _ (limit : ℕ) (unread : Option ℕ) (before after : HeldPatches) (reply : Reply) (out out' : List ℕ) where
  pub added_as : (patch : List ℕ) (what : Added) → ((texts : List (List ℕ)) → HasTakenTexts before texts → TakesOne HasTakenTexts what texts patch after) → (what ≡ added.Conflict) ↔ (after.places ≢ None)
      → ReportsAdded limit what after reply out out' → HandleReplies limit unread (λ a. HasAdded limit patch before a after) reply out out'
  added_as patch added.Joined takes clash replied = (handle_text [], (refl, takes), replied)
  added_as patch added.Conflict takes clash replied =
      reported_places limit unread (λ a. HasAdded limit patch before a after) reply out out' after.places (λ none. absurd (clash.0 refl none)) (λ total said is. (takes, is)) (λ total said is. (takes, is)) replied
  added_as patch added.Pending takes clash replied = (handle_fault Pending, takes, replied)
  added_as patch added.Refused takes clash replied = (handle_fault OutOfMemory, λ texts has. (takes texts has).0, replied)

  pub combined_as : (other left : HeldPatches) (what : Added)
      → ((texts others : List (List ℕ)) → HasTakenTexts before texts → HasTakenTexts other others → TakesAll HasTakenTexts what texts others after left) → (what ≡ added.Conflict) ↔ (after.places ≢ None)
      → ReportsAdded limit what after reply out out' → HandleReplies limit unread (λ a. HasCombined limit before other a after left) reply out out'
  combined_as other left added.Joined takes clash replied = (handle_text [], (refl, takes), replied)
  combined_as other left added.Conflict takes clash replied =
      reported_places limit unread (λ a. HasCombined limit before other a after left) reply out out' after.places (λ none. absurd (clash.0 refl none)) (λ total said is. (takes, is)) (λ total said is. (takes, is)) replied
  combined_as other left added.Pending takes clash replied = (handle_fault Pending, takes, replied)
  combined_as other left added.Refused takes clash replied =
      (handle_fault OutOfMemory, λ texts others has also. ((takes texts others has also).0, (takes texts others has also).1), replied)

  -- ---- the join

  pub not_joined : (why : LiveFault) → SettlesPatches before after → IsNoJoin limit why after → ((texts : List (List ℕ)) → HasTakenTexts after texts → IsNoJoinText why texts)
      → ReportsNoJoin limit why after reply out out' → HandleReplies limit unread (λ a. GivesJoin limit before a after) reply out out'
  not_joined Conflict settles is none replied =
      let clash : (texts : List (List ℕ)) → HasTakenTexts before texts → ¬ AreCompatible texts = λ texts has. none texts (settles.0 texts has) in
      reported_places limit unread (λ a. GivesJoin limit before a after) reply out out' after.places (λ places. absurd (is places)) (λ total said seen. (settles, seen, clash)) (λ total said seen. (settles, seen, clash)) replied
  not_joined Pending settles is none replied = (handle_fault Pending, (settles, is), replied)
  not_joined NoPatches settles is none replied = (handle_fault NoPatches, (settles, λ texts has. none texts (settles.0 texts has)), replied)
  not_joined TooLarge settles is none replied = (handle_fault TooLarge, (settles, is), replied)
  not_joined OutOfMemory settles is none replied = (handle_fault OutOfMemory, (settles, tt), replied)
  not_joined why settles is none replied = absurd is

  pub made_of_kept : (kept : List ℕ) → HoldsKept kept after → ReportsConflict limit after.places reply out out' → HandleReplies limit unread (λ a. IsMadeOfKept limit kept before a after) reply out out'
  made_of_kept kept holds replied =
      reported_places limit unread (λ a. IsMadeOfKept limit kept before a after) reply out out' after.places (λ none. (refl, holds, none)) (λ total said is. (holds, is)) (λ total said is. (holds, is)) replied

none_read : (texts : List (List ℕ)) (documents : List Document) → AreRead texts documents → documents ≡ [] → texts ≡ []
none_read [] documents are none = refl
none_read (t ∷ ts) [] are none = absurd (cc)
none_read (t ∷ ts) (d ∷ ds) are none = absurd (cc)

none_given : (texts : List (List ℕ)) (documents : List Document) → AreRead texts documents → texts ≡ [] → documents ≡ []
none_given [] [] are none = refl
none_given [] (d ∷ ds) are none = absurd (cc)
none_given (t ∷ ts) ds are none = absurd (cc)

-- no text is given exactly if none is read
pub none_as_read : (texts : List (List ℕ)) (documents : List Document) (kept : List ℕ) → AreRead texts documents → (kept ≡ []) ↔ (documents ≡ []) → (kept ≡ []) ↔ (texts ≡ [])
none_as_read texts documents kept are same =
    (λ empty. none_read texts documents are (same.0 empty), λ none. same.1 (none_given texts documents are none))

-- what owns nothing has taken nothing
module _ (holds : HoldsJoin) (limit : ℕ) (old new : Option HeldPatches) (was : old ≡ None) (is : new ≡ None) where
  none_taken : (texts : List (List ℕ)) → HasTakenTexts (patches_in None) texts → texts ≡ []
  none_taken texts has = none_read texts has.documents has.read ((holds has.documents (patches_in None) has.taken).1 refl refl)

  none_of : (Does : HeldPatches → HandleAnswer → HeldPatches → Type 0) (answer : HandleAnswer) → Does (patches_in None) answer (patches_in None) → OfPatches Does old answer new
  none_of Does answer does = subst (λ (o : Option HeldPatches). OfPatches Does o answer new) (sym was) (subst (λ (n : Option HeldPatches). OfPatches Does None answer n) (sym is) does)

  pub none_joined : OfPatches (GivesJoin limit) old (handle_fault NoPatches) new
  none_joined = none_of (GivesJoin limit) (handle_fault NoPatches) ((λ texts has. has, λ settled. refl), none_taken)

  pub none_kept : OfPatches (GivesKept limit) old (handle_text []) new
  none_kept = none_of (GivesKept limit) (handle_text []) (
    (λ texts has. has, λ settled. refl),
    (refl, refl),
    λ texts has. ((refl, refl), (λ empty. none_taken texts has, λ none. refl)),
    omega arith,
  )

-- ---- texts that were read can be read

pub all_readable : ReadsReadable → (texts : List (List ℕ)) (documents : List Document) → AreRead texts documents → All IsReadable documents
all_readable readable [] [] are = All-nil IsReadable
all_readable readable [] (d ∷ ds) are = absurd (cc)
all_readable readable (t ∷ ts) [] are = absurd (cc)
all_readable readable (t ∷ ts) (d ∷ ds) are =
    let here : document_in t ≡ Ok d = cc in
    let rest : AreRead ts ds = cc in
    All-cons IsReadable d ds (readable t d here) (all_readable readable ts ds rest)

-- ---- the kept form

pub gives_kept : {A : Type 0} (limit : ℕ) (before after : HeldPatches) (r : Result (String A) LiveFault) → ReadsReadable → SettlesPatches before after
    → MatchResult r (λ t. IsKeptText after (string_bytes t)) (λ why. IsNotKeptYet limit why after) → IfOk r (λ t. length (string_bytes t) ≤ limit)
    → IfOk r (λ t. (taken : List Document) → HasTaken after taken → (string_bytes t ≡ []) ↔ (taken ≡ []))
    → IfOk r (λ t. (taken : List Document) → HasTaken after taken → All IsReadable taken → IsKept after (string_bytes t)) → GivesKept limit before (live_answer r) after
gives_kept limit before after (Ok t) readable settles text within empty kept = (
  settles,
  text,
  λ texts has. let now = settles.0 texts has in (
    kept now.documents now.taken (all_readable readable texts now.documents now.read),
    none_as_read texts now.documents (string_bytes t) now.read (empty now.documents now.taken),
  ),
  within,
)
gives_kept limit before after (Err why) readable settles text within empty kept = (settles, text)
