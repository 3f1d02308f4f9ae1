-- What a patch log shows, and what it begins: outcomes of its start and of some of the patches.
use Rattle.std.proofs.Common.{◌≡◌, ◌+◌, ℕ, inl, inr, List, [], ◌∷◌, ◌++◌, Option, None, Some, IfSome, MatchOption, option_map, sym, ◌∙◌, subst}
use Rattle.std.specs.Prelude.{⊤}
use Rattle.std.proofs.lemmas.List.Elements.{All-cons, All-nil, All-push, Contains-append_left, Contains-push, Contains-push_cases}
use Rattle.std.specs.List.{All, Contains}
use Rattle.mp_tree.specs.Document.{Document, IsDocument}
use Rattle.mp_tree.specs.View.{document}
use Rattle.mp_tree.specs.declared.doc.Doc.{Doc}
use Rattle.mp_tree.proofs.Facts.{IsDocument-document, Contains-head, Contains-tail, some_same}
use Rattle.mp_merge.specs.Application.{merge_patch}
use Rattle.mp_merge.specs.Clash.{Compatible}
use Rattle.mp_merge.specs.Lists.{PairwiseCompatible}
use Rattle.mp_merge.specs.Outcome.{IsOutcome}
use Rattle.mp_replica.specs.Following.{settled}
use Rattle.mp_replica.specs.Held.{HasJoined}
use Rattle.mp_replica.specs.PatchLog.{AreChosen, Begins, ClashesWithNone, HaveArrived, HeldLog, Shows, Stored, StoresAlso, stored_in, stored_of}
use Rattle.mp_replica.specs.Private.LawsBelow.{MergeLaws, TextLaws}
use Rattle.mp_replica.specs.Private.StoredPatches.{AreApart, IsShownAfter, StillShows}
use Rattle.mp_replica.specs.declared.message.Identity.{Identity}
use Rattle.mp_replica.specs.declared.stored_patches.Standing.{Standing}
use Rattle.mp_replica.specs.declared.stored_patches.Standing.TheVariants.{Fits as Fitted, Disputed, Disputes}
use Rattle.mp_replica.proofs.Conflicting.{unclashed_more}
use Rattle.mp_replica.proofs.Gathered.{none_more_gathered, one_gathered}
use Rattle.mp_replica.proofs.Growing.{join_of, pairwise_push}
use Rattle.mp_replica.proofs.Identities.{stored_is_document}

-- what is joined, merged into the start, is the outcome of all that was joined
pub shows_joined : (laws : TextLaws) (d : Document) (ds : List Document) (m : Option Document) → IsDocument d → IfSome m IsDocument → HasJoined m None ds → IsOutcome d ds (settled d m)
shows_joined laws d ds None good good_m has = subst (λ (l : List Document). IsOutcome d l d) (sym (join_of laws.merging ds None tt has)) (laws.merging.outcome_of_none d)
shows_joined laws d ds (Some k) good good_m has = laws.join_outcome d ds k good good_m (join_of laws.merging ds (Some k) good_m has)

-- ---- one more patch p is stored, which clashes with none

all_documents : (ds : List Document) → ((q : Document) → Contains ds q → IsDocument q) → All IsDocument ds
all_documents [] each = All-nil IsDocument
all_documents (d ∷ ds) each = All-cons IsDocument d ds (each d (Contains-head d ds)) (all_documents ds (λ q at. each q (Contains-tail d q ds at)))

module _ (laws : MergeLaws) (es fs : List (Identity × Doc)) (i : Identity) (p : Document) (absent : stored_in es i ≡ None) (more : StoresAlso (stored_in es) i p (stored_in fs))
    (good : IsDocument p) (none : ClashesWithNone (stored_in es) p) where
  pub shows_more : (start shown : Document) → IsDocument start → IsDocument shown → Shows start (stored_in es) shown → Shows start (stored_in fs) (merge_patch (Some shown) p)
  shows_more start shown good_start good_shown shows =
      let before = shows.patches in
      let each = shows.unclashed in
      let agree : (q : Document) → Contains before q → Compatible p q = λ q at. let place = ((each q).0 at).0 in none place.0 q place.1 in
      let apart : PairwiseCompatible before = λ q r one two. let place = ((each r).0 two).0 in ((each q).0 one).1 place.0 r place.1 in
      let all = all_documents before (λ q at. let place = ((each q).0 at).0 in stored_is_document es place.0 q place.1) in
      record {
        patches = before ++ p ∷ [];
        unclashed = unclashed_more (stored_in es) (stored_in fs) i p absent more none before each;
        outcome = laws.outcome_grows start before shown p good_start all good_shown good (pairwise_push before p apart agree) shows.outcome;
      }

-- what is kept is kept up
pub kept_up : (standing : Standing) (start p : Document) (es fs : List (Identity × Doc)) (held now : Option Doc) → IsDocument start
    → MatchOption now ⊤ (λ d. (before : Doc) × (held ≡ Some before) × IsShownAfter standing (document before) p (document d))
    → ((shown : Document) → IsDocument shown → Shows start (stored_in es) shown → StillShows standing start shown p (stored_in fs))
    → IfSome (option_map document held) (Shows start (stored_in es)) → IfSome (option_map document now) (Shows start (stored_in fs))
kept_up standing start p es fs held None good after still shows = tt
kept_up Fitted start p es fs held (Some d) good after still shows =
    subst (Shows start (stored_in fs)) (sym after.2) (still (document after.0) (IsDocument-document after.0) (subst (λ o. IfSome (option_map document o) (Shows start (stored_in es))) after.1 shows))
kept_up Disputed start p es fs held (Some d) good after still shows =
    subst (Shows start (stored_in fs)) (sym after.2) (still (document after.0) (IsDocument-document after.0) (subst (λ o. IfSome (option_map document o) (Shows start (stored_in es))) after.1 shows))
kept_up Disputes start p es fs held (Some d) good after still shows = absurd after.2

-- ---- the chosen patches, one after another

-- the outcome of the patches that were chosen so far
pub record HasChosen (stored : Stored) (start : Document) (chosen : List Identity) (end : Document) : Type 0 where
  pub patches : List Document
  pub are_chosen : AreChosen stored chosen patches
  pub are_documents : All IsDocument patches
  pub outcome : IsOutcome start patches end

pub one_chosen : (laws : MergeLaws) (stored : Stored) (start end p : Document) (all done : List Identity) (i : Identity) → IsDocument start → IsDocument end → IsDocument p → AreApart stored all
    → ((j : Identity) → Contains (done ++ i ∷ []) j → Contains all j) → stored i ≡ Some p → HasChosen stored start done end → HasChosen stored start (done ++ i ∷ []) (merge_patch (Some end) p)
one_chosen laws stored start end p all done i good good_end good_p apart within at has = record {
  patches = has.patches ++ p ∷ [];
  are_chosen = one_gathered (λ j q. stored j ≡ Some q) done i has.patches has.are_chosen p at (λ q is. some_same p q (sym at ∙ is));
  are_documents = All-push IsDocument has.patches p has.are_documents good_p;
  outcome = laws.outcome_grows start has.patches end p good has.are_documents good_end good_p free has.outcome;
}
  where
    free : PairwiseCompatible (has.patches ++ p ∷ [])
    free q r one two = apart-of (place q one) (place r two)
      where
        place : (q : Document) → Contains (has.patches ++ p ∷ []) q → (j : Identity) × Contains all j × (stored j ≡ Some q)
        place q one = elim (Contains-push_cases has.patches p q one) [
          | inl before ↦ let was = (has.are_chosen q).0 before in (was.0, within was.0 (Contains-append_left done (i ∷ []) was.0 was.1), was.2)
          | inr same ↦ (i, within i (Contains-push done i), subst (λ r. stored i ≡ Some r) same at)
        ]

        apart-of : (j : Identity) × Contains all j × (stored j ≡ Some q) → (k : Identity) × Contains all k × (stored k ≡ Some r) → Compatible q r
        apart-of here there = apart here.0 there.0 q r here.1 there.1 here.2 there.2

-- an identity under which nothing is stored adds nothing
pub none_more : (stored : Stored) (start end : Document) (done : List Identity) (i : Identity) → stored i ≡ None → HasChosen stored start done end → HasChosen stored start (done ++ i ∷ []) end
none_more stored start end done i none has = record {
  patches = has.patches;
  are_chosen = none_more_gathered (λ j q. stored j ≡ Some q) done i has.patches has.are_chosen (λ q is. let never : None ≡ Some q = sym none ∙ is in cc);
  are_documents = has.are_documents;
  outcome = has.outcome;
}

-- a new start, with the next number, for which nothing has arrived
pub begins : (epoch : ℕ) (start : Doc) (es : List (Identity × Doc)) (chosen : List Identity) (end : Doc) (now : HeldLog) → HaveArrived (stored_in es) chosen
    → (patches : List Document) × AreChosen (stored_in es) chosen patches × IsOutcome (document start) patches (document end) → now.epoch ≡ epoch + 1 → now.start ≡ end → ((i : Identity) → stored_of now i ≡ None)
    → Begins (record { epoch = epoch; start = start; stored = es }) chosen now
begins epoch start es chosen end now arrived after next begun none = record {
  arrived = arrived;
  patches = after.0;
  are_chosen = after.1;
  start = subst (λ d. IsOutcome (document start) after.0 (document d)) (sym begun) after.2;
  epoch = next;
  forgotten = none;
}
