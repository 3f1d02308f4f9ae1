-- What has taken a list of patches takes more.
use Rattle.std.proofs.Common.{◌≡◌, ◌≢◌, ◌↔◌, ◌⊎◌, inl, inr, List, [], ◌∷◌, ◌++◌, Option, None, Some, IfSome, MatchOption, option_map, refl, sym, ap, ◌∙◌, subst}
use Rattle.std.specs.List.{All, Contains}
use Rattle.std.proofs.lemmas.List.{append-nil}
use Rattle.std.proofs.lemmas.List.Elements.{All-append, All-contains, All-contains_itself, All-push, All-weaker, Contains-append_cases, Contains-append_left, Contains-append_right, Contains-push, Contains-push_cases}
use Rattle.mp_tree.specs.Document.{Document, IsDocument}
use Rattle.mp_tree.specs.Look.{Path}
use Rattle.mp_tree.specs.View.{document}
use Rattle.mp_tree.specs.declared.doc.Doc.{Doc}
use Rattle.mp_tree.proofs.Facts.{Contains-head, Contains-nil, IsDocument-document}
use Rattle.mp_merge.specs.Clash.{AreAllClashes, Clash, Compatible}
use Rattle.mp_merge.specs.Join.{IsJoin}
use Rattle.mp_merge.specs.Lists.{HaveSameMembers, PairwiseCompatible}
use Rattle.mp_replica.specs.Held.{AreClashesAmong, AreClashesBetween, AreClashesWith, AreFirstPlaces, HasJoined, HeldPatches, HeldPlaces, HoldsClashesBetween, HoldsClashesWith, IsJoinOf}
use Rattle.mp_replica.specs.Laws.{HoldsJoin, TakenSame, TakersAgree}
use Rattle.mp_replica.specs.Private.LawsBelow.{MergeLaws}
use Rattle.mp_replica.specs.Private.Steps.{ClashesWithJoin, HoldsClashesWithJoin, SameJoins}
use Rattle.mp_replica.specs.Taking.{HasTaken, HoldsConflict, TakesAll, TakesOne}
use Rattle.mp_replica.specs.declared.patches.Added.{Added}
use Rattle.mp_replica.specs.declared.patches.Added.TheVariants.{Joined, Conflict, Pending, Refused}
use Rattle.mp_replica.proofs.Apart.{none_within}
use Rattle.mp_replica.proofs.Growing.{clashes_of_join, compatible_if_joined, documents, grew_joins, itself, join_of, joined_none, joined_on, joined_same, one_join_of, same_back}

-- what is held if no two conflict
pub free_taken : (r : HeldPatches) (taken : List Document) → r.places ≡ None → HasJoined (option_map document r.joined) (option_map document r.pending) taken → HasTaken r taken
free_taken r taken none has = record {
  are_documents = has.are_documents;
  held = subst (λ o. MatchOption o (HasJoined (option_map document r.joined) (option_map document r.pending) taken) (HoldsConflict r taken)) (sym none) has;
}

pub if_free : (r : HeldPatches) (taken : List Document) → r.places ≡ None → HasTaken r taken → HasJoined (option_map document r.joined) (option_map document r.pending) taken
if_free r taken none has = subst (λ o. MatchOption o (HasJoined (option_map document r.joined) (option_map document r.pending) taken) (HoldsConflict r taken)) none has.held

-- what is held if two conflict
pub conflict_taken : (r : HeldPatches) (taken : List Document) (held : HeldPlaces) (places : List Path) → r.places ≡ Some held → r.joined ≡ None → r.pending ≡ None → All IsDocument taken → AreClashesAmong taken places → AreFirstPlaces places held
    → HasTaken r taken
conflict_taken r taken held places some no_join none_pending all clashes first = record {
  are_documents = all;
  held = subst (λ o. MatchOption o (HasJoined (option_map document r.joined) (option_map document r.pending) taken) (HoldsConflict r taken)) (sym some)
      (record { all = places; clashes = clashes; first = first; no_join = no_join; none_pending = none_pending });
}

pub if_conflict : (r : HeldPatches) (taken : List Document) (held : HeldPlaces) → r.places ≡ Some held → HasTaken r taken → HoldsConflict r taken held
if_conflict r taken held some has = subst (λ o. MatchOption o (HasJoined (option_map document r.joined) (option_map document r.pending) taken) (HoldsConflict r taken)) some has.held

-- ---- a conflict stays one

more_clashes : (ds es : List Document) (places : List Path) → ((p : Document) → Contains ds p → Contains es p) → AreClashesAmong ds places → AreClashesAmong es places
more_clashes ds es places within clashes = record {
  some = clashes.some;
  rising = clashes.rising;
  apart = clashes.apart;
  each = λ w at. let pair = clashes.each w at in (pair.0, pair.1, within pair.0 pair.2, within pair.1 pair.3, pair.4);
}

never_compatible : (taken : List Document) (places : List Path) → AreClashesAmong taken places → ¬ PairwiseCompatible taken
never_compatible taken [] clashes free = clashes.some refl
never_compatible taken (w ∷ places) clashes free = let pair = clashes.each w (Contains-head w places) in free pair.0 pair.1 pair.2 pair.3 w pair.4

either : (o : Option HeldPlaces) → (o ≡ None) ⊎ ((held : HeldPlaces) × (o ≡ Some held))
either None = inl refl
either (Some held) = inr (held, refl)

-- what holds a conflict of some patches holds one of these and more
pub conflict_stays : (r : HeldPatches) (taken more : List Document) → r.places ≢ None → All IsDocument more → ((p : Document) → Contains taken p → Contains more p) → HasTaken r taken → HasTaken r more
conflict_stays r taken more some all within has = elim (either r.places) [
  | inl none ↦ absurd (some none)
  | inr there ↦
      let held = if_conflict r taken there.0 there.1 has in
      conflict_taken r more there.0 held.all there.1 held.no_join held.none_pending all (more_clashes taken more held.all within held.clashes) held.first
]

pub conflict_takes : (r : HeldPatches) (taken : List Document) (p : Doc) → r.places ≢ None → HasTaken r taken → HasTaken r (taken ++ document p ∷ [])
conflict_takes r taken p some has =
    conflict_stays r taken (taken ++ document p ∷ []) some (All-push IsDocument taken (document p) has.are_documents (IsDocument-document p)) (Contains-append_left taken (document p ∷ [])) has

pub conflict_takes_all : (r o : HeldPatches) (taken others : List Document) → r.places ≢ None → HasTaken r taken → HasTaken o others → HasTaken r (taken ++ others)
conflict_takes_all r o taken others some has have = conflict_stays r taken (taken ++ others) some (All-append IsDocument taken others has.are_documents have.are_documents) (Contains-append_left taken others) has

pub takes_conflict_over : (r o : HeldPatches) (taken others : List Document) → o.places ≢ None → HasTaken r taken → HasTaken o others → HasTaken o (taken ++ others)
takes_conflict_over r o taken others some has have = conflict_stays o others (taken ++ others) some (All-append IsDocument taken others has.are_documents have.are_documents) (Contains-append_right taken others) have

turned : {p q : Document} {w : Path} → Clash p q w → Clash q p w
turned clash = record { first = clash.second; second = clash.first; differ = λ same. clash.differ (sym same) }

append_turned : (ds es : List Document) (p : Document) → Contains (ds ++ es) p → Contains (es ++ ds) p
append_turned ds es p at = elim (Contains-append_cases ds es p at) [
  | inl first ↦ Contains-append_right es ds p first
  | inr second ↦ Contains-append_left es ds p second
]

-- what clashes between some patches and others clashes between these and those
between_turned : (taken others : List Document) (places : List Path) → AreClashesBetween others taken places → AreClashesBetween taken others places
between_turned taken others places clashes = record {
  rising = clashes.rising;
  all = λ w. (
    λ at. let found = (clashes.all w).0 at in (found.2.0, found.2.1, (found.0, found.1, turned found.2.2)),
    λ found. (clashes.all w).1 (found.2.0, found.2.1, (found.0, found.1, turned found.2.2)),
  );
}

pub seen_turned : (places : Option HeldPlaces) (taken others : List Document) → IfSome places (HoldsClashesBetween others taken) → IfSome places (HoldsClashesBetween taken others)
seen_turned None taken others seen = seen
seen_turned (Some held) taken others seen = record { all = seen.all; clashes = between_turned taken others seen.all seen.clashes; first = seen.first }

pub some_places : (p k : Document) (places : List Path) → (¬ Compatible p k) → AreAllClashes p k places → places ≢ []
some_places p k [] clash all none = clash (λ w at. Contains-nil w ((all.all w).1 at))
some_places p k (w ∷ places) clash all none = let differ = none in cc

module _ (laws : MergeLaws) where
  pub none_taken : (r : HeldPatches) → r.joined ≡ None → r.pending ≡ None → r.places ≡ None → HasTaken r []
  none_taken r no_join none_pending none = free_taken r [] none (rw (no_join, none_pending) (joined_none laws))

  -- a join has taken itself
  pub one_taken : (r : HeldPatches) (j : Doc) → r.places ≡ None → r.joined ≡ Some j → r.pending ≡ None → HasTaken r (document j ∷ [])
  one_taken r j none joined settled = free_taken r (document j ∷ []) none (rw (joined, settled) (joined_on laws [] None (document j) (IsDocument-document j) tt (joined_none laws) tt stays))
    where
      stays : SameJoins None (Some (document j)) (Some (document j)) None
      stays = grew_joins laws None (Some (document j)) (document j) (IsDocument-document j) (IsDocument-document j) refl

  -- what is joined if nothing is pending
  pub joins_taken : (r : HeldPatches) (taken : List Document) → r.places ≡ None → r.pending ≡ None → HasTaken r taken → HasJoined (option_map document r.joined) None taken
  joins_taken r taken none settled has = subst (λ o. HasJoined (option_map document r.joined) (option_map document o) taken) settled (if_free r taken none has)

  join_taken : (r : HeldPatches) (taken : List Document) → r.places ≡ None → r.pending ≡ None → HasTaken r taken → IsJoinOf taken (option_map document r.joined)
  join_taken r taken none settled has = join_of laws taken (option_map document r.joined) (documents r.joined) (joins_taken r taken none settled has)

  -- ---- one more patch

  pub takes_on : (taken : List Document) (r s : HeldPatches) (p : Doc) → r.places ≡ None → r.pending ≡ None → s.places ≡ None → IfSome (option_map document r.joined) (Compatible (document p))
      → SameJoins (option_map document r.joined) (Some (document p)) (option_map document s.joined) (option_map document s.pending) → HasTaken r taken → HasTaken s (taken ++ document p ∷ [])
  takes_on taken r s p none settled still fits joins has =
      free_taken s (taken ++ document p ∷ []) still (joined_on laws taken (option_map document r.joined) (document p) (IsDocument-document p) (documents r.joined) (joins_taken r taken none settled has) fits joins)

  -- what clashes with the join of some patches clashes with these
  clashes_with_each : (ds : List Document) (m : Option Document) (p : Document) (places : List Path) → IsJoinOf ds m → ClashesWithJoin m p places → (places ≢ []) × AreClashesWith ds p places
  clashes_with_each ds None p places joined clash = absurd clash
  clashes_with_each ds (Some k) p places joined clash = (some_places p k places clash.0 clash.1, clashes_of_join laws ds k p places joined clash.1)

  pub takes_conflict : (r : HeldPatches) (p : Doc) (held : HeldPlaces) → r.places ≡ None → r.pending ≡ None → HoldsClashesWithJoin (option_map document r.joined) (document p) held
      → (taken : List Document) → HasTaken r taken → HasTaken (record { joined = None; pending = None; places = Some held }) (taken ++ document p ∷ []) × HoldsClashesWith taken (document p) held
  takes_conflict r p held none settled found taken has =
      let all = clashes_with_each taken (option_map document r.joined) (document p) found.0 (join_taken r taken none settled has) found.1 in (
        conflict_taken _ (taken ++ document p ∷ []) held found.0 refl refl refl (All-push IsDocument taken (document p) has.are_documents (IsDocument-document p)) (record {
          some = all.0;
          rising = all.1.rising;
          apart = none_within taken (document p) found.0 (if_free r taken none has).compatible all.1;
          each = λ w at.
              let pair = (all.1.all w).0 at in
              (document p, pair.0, Contains-push taken (document p), Contains-append_left taken (document p ∷ []) pair.0 pair.1, pair.2);
        }) found.2,
        record { all = found.0; clashes = all.1; first = found.2 },
      )

  -- ---- all that another took

  -- one of them clashes where their join does
  clashes_of_others : (taken others : List Document) (p : Document) (places : List Path) → IsJoin others p → AreClashesAmong (taken ++ p ∷ []) places → AreClashesAmong (taken ++ others) places
  clashes_of_others taken others p places joined clashes = record { some = clashes.some; rising = clashes.rising; apart = clashes.apart; each = λ w at. by w (clashes.each w at) }
    where
      Pair : List Document → Path → Type 0
      Pair ds w = (x : Document) × (y : Document) × Contains ds x × Contains ds y × Clash x y w

      with_one : (w : Path) (x : Document) → Contains taken x → Clash x p w → Pair (taken ++ others) w
      with_one w x at clash = let found = (laws.conflict_with_a_join others p x w joined).0 clash in (x, found.0, Contains-append_left taken others x at, Contains-append_right taken others found.0 found.1, found.2)

      by : (w : Path) → Pair (taken ++ p ∷ []) w → Pair (taken ++ others) w
      by w (x, y, at_x, at_y, clash) = elim (Contains-push_cases taken p x at_x) [
        | inl early ↦ elim (Contains-push_cases taken p y at_y) [
          | inl also ↦ (x, y, Contains-append_left taken others x early, Contains-append_left taken others y also, clash)
          | inr last ↦ with_one w x early (subst (λ d. Clash x d w) (sym last) clash)
        ]
        | inr last ↦ elim (Contains-push_cases taken p y at_y) [
          | inl early ↦ with_one w y early (turned (subst (λ d. Clash d y w) (sym last) clash))
          | inr also ↦ absurd (itself p w (subst (λ d. Clash p d w) (sym also) (subst (λ d. Clash d y w) (sym last) clash)))
        ]
      ]

  -- what has taken their join has taken them all
  takes_others : (taken others : List Document) (s : HeldPatches) (p : Document) → IsJoin others p → All IsDocument taken → All IsDocument others → HasTaken s (taken ++ p ∷ []) → HasTaken s (taken ++ others)
  takes_others taken others s p joined all all_others has = elim (either s.places) [
    | inl none ↦
        let one = if_free s (taken ++ p ∷ []) none has in
        let found = (laws.join_exists (taken ++ p ∷ []) (λ empty. Contains-nil p (subst (λ (l : List Document). Contains l p) empty (Contains-push taken p))) one.are_documents).1 one.compatible in
        free_taken s (taken ++ others) none (record {
          are_documents = All-append IsDocument taken others all all_others;
          compatible = compatible_if_joined (taken ++ others) found.0 ((laws.join_in_parts taken others p found.0 joined).1 found.2);
          joins = λ j is_document. (
            λ here. (laws.join_in_parts taken others p j joined).1 ((one.joins j is_document).0 here),
            λ there. (one.joins j is_document).1 ((laws.join_in_parts taken others p j joined).0 there),
          );
        })
    | inr some ↦
        let held = if_conflict s (taken ++ p ∷ []) some.0 some.1 has in
        conflict_taken s (taken ++ others) some.0 held.all some.1 held.no_join held.none_pending (All-append IsDocument taken others all all_others) (clashes_of_others taken others p held.all joined held.clashes) held.first
  ]

  pub their_join : (o : HeldPatches) (p : Doc) → o.places ≡ None → o.pending ≡ None → o.joined ≡ Some p → (others : List Document) → HasTaken o others → IsJoin others (document p)
  their_join o p none settled is others have = subst (λ m. IsJoinOf others (option_map document m)) is (join_taken o others none settled have)

  -- what was taken by one patch, the join of others, was taken of these
  pub takes_all_of_one : (what : Added) (taken others : List Document) (s t : HeldPatches) (p : Document) → what ≢ Refused → IsJoin others p → All IsDocument taken → All IsDocument others → HasTaken t [] → TakesOne HasTaken what taken p s
      → TakesAll HasTaken what taken others s t
  takes_all_of_one Joined taken others s t p which joined all all_others left one = (takes_others taken others s p joined all all_others one.0, left, one.1, one.2)
  takes_all_of_one Pending taken others s t p which joined all all_others left one = (takes_others taken others s p joined all all_others one.0, left, one.1, one.2)
  takes_all_of_one Conflict taken others s t p which joined all all_others left one = (takes_others taken others s p joined all all_others one.0, left, one.1)
  takes_all_of_one Refused taken others s t p which joined all all_others left one = absurd (which refl)

  -- what clashes with the join of others clashes with one of these, and the other way round
  pub seen_between : (taken others : List Document) (p : Document) (places : Option HeldPlaces) → IsJoin others p → IfSome places (HoldsClashesWith taken p) → IfSome places (HoldsClashesBetween taken others)
  seen_between taken others p None joined seen = seen
  seen_between taken others p (Some held) joined seen = record {
    all = seen.all;
    clashes = record {
      rising = seen.clashes.rising;
      all = λ w. (
        λ at. let one = (seen.clashes.all w).0 at in (one.0, one.1, (laws.conflict_with_a_join others p one.0 w joined).0 (turned one.2)),
        λ some. (seen.clashes.all w).1 (some.0, some.1, turned ((laws.conflict_with_a_join others p some.0 w joined).1 some.2)),
      );
    };
    first = seen.first;
  }

  pub takes_none : (taken others : List Document) (o s : HeldPatches) → o.places ≡ None → o.pending ≡ None → o.joined ≡ None → HasTaken o others → HasTaken s taken → HasTaken s (taken ++ others)
  takes_none taken others o s none settled empty have has =
      let no_others : others ≡ [] = subst (λ m. IsJoinOf others (option_map document m)) empty (join_taken o others none settled have) in
      subst (HasTaken s) (sym (ap (λ l. taken ++ l) no_others ∙ append-nil taken)) has

  -- ---- laws

  free_exactly : (taken : List Document) (r : HeldPatches) → HasTaken r taken → (r.places ≡ None) ↔ PairwiseCompatible taken
  free_exactly taken r has = (
    λ none. (if_free r taken none has).compatible,
    λ free. elim (either r.places) [
      | inl none ↦ none
      | inr some ↦ let held = if_conflict r taken some.0 some.1 has in absurd (never_compatible taken held.all held.clashes free)
    ],
  )

  pub holds_join : HoldsJoin
  holds_join taken r has = (free_exactly taken r has, λ none settled. join_taken r taken none settled has)

  all_same : (taken others : List Document) → HaveSameMembers taken others → All IsDocument taken → All IsDocument others
  all_same taken others same all = All-weaker (Contains others) IsDocument (λ p at. All-contains IsDocument taken p all ((same p).1 at)) others (All-contains_itself others)

  pub taken_same : TakenSame
  taken_same taken others r same has = elim (either r.places) [
    | inl none ↦ free_taken r others none (joined_same laws taken others same (if_free r taken none has))
    | inr some ↦ conflict_stays r taken others (λ none. let never = sym some.1 ∙ none in cc) (all_same taken others same has.are_documents) (λ p. (same p).0) has
  ]

  pub takers_agree : TakersAgree
  takers_agree taken others r s same one two =
      let also : HasTaken s taken = taken_same others taken s (same_back taken others same) two in
      let first = free_exactly taken r one in
      let second = free_exactly taken s also in (
        (λ none. second.1 (first.0 none), λ none. first.1 (second.0 none)),
        λ none settled settled_there.
            one_join_of laws taken (option_map document r.joined) (option_map document s.joined) (documents r.joined) (documents s.joined) (join_taken r taken none settled one)
            (join_taken s taken (second.1 (first.0 none)) settled_there also),
      )

  -- ---- whichever of the two is joined into the other

  either_order : (taken others : List Document) (r : HeldPatches) → HasTaken r (others ++ taken) → HasTaken r (taken ++ others)
  either_order taken others r = taken_same (others ++ taken) (taken ++ others) r (λ p. (append_turned others taken p, append_turned taken others p))

  pub takes_all_turned : (what : Added) (taken others : List Document) (r o : HeldPatches) → what ≢ Refused → TakesAll HasTaken what others taken r o → TakesAll HasTaken what taken others r o
  takes_all_turned Joined taken others r o some took = (either_order taken others r took.0, took.1, took.2, took.3)
  takes_all_turned Pending taken others r o some took = (either_order taken others r took.0, took.1, took.2, took.3)
  takes_all_turned Conflict taken others r o some took = (either_order taken others r took.0, took.1, took.2)
  takes_all_turned Refused taken others r o some took = absurd (some refl)
