-- What is known of the stored patches that conflict, as one more is stored.
use Rattle.std.proofs.Common.{◌≡◌, ◌≢◌, ◌↔◌, ◌⊎◌, inl, inr, List, [], ◌∷◌, ◌++◌, Option, None, Some, IfSome, option_map, refl, sym, ap, ◌∙◌, subst, append_assoc}
use Rattle.std.proofs.lemmas.List.Elements.{Contains-append_left, Contains-push, Contains-push_cases}
use Rattle.std.specs.List.{Contains}
use Rattle.std.specs.List.Sorted.{IsStrictlySortedBy}
use Rattle.std.specs.Map.{keys_of}
use Rattle.std.specs.declared.cmp.Ordering.TheVariants.{Less}
use Rattle.mp_tree.specs.Document.{Document, IsDocument}
use Rattle.mp_tree.specs.Look.{Path}
use Rattle.mp_tree.specs.View.{document}
use Rattle.mp_tree.specs.declared.doc.Doc.{Doc}
use Rattle.mp_tree.proofs.Facts.{Contains-cases, Contains-head, Contains-nil, Contains-tail, IsDocument-document, some_same}
use Rattle.mp_tree.proofs.Passed.{Passed, Passed-next}
use Rattle.mp_merge.specs.Clash.{AreAllClashes, Compatible}
use Rattle.mp_replica.specs.Held.{HasJoined, IsJoinOf}
use Rattle.mp_replica.specs.PatchLog.{AreUnclashed, ClashesWithNone, DoClash, HaveArrived, Stored, StoresAlso, identity_cmp, stored_in}
use Rattle.mp_replica.specs.Private.LawsBelow.{MergeLaws}
use Rattle.mp_replica.specs.Private.Pairs.{AreOrdered, HasBoth, Includes, KeptPairs, KnowsPairs, Notes}
use Rattle.mp_replica.specs.Private.Steps.{HeldJoin, JoinsStay, SameJoins}
use Rattle.mp_replica.specs.Private.StoredPatches.{AreConflictingWith, AreOthers, Conflicts, FitsAll, IsJoined, JoinsOthers, KnowsConflicts, join_in}
use Rattle.mp_replica.specs.declared.stored_join.StoredJoin.{StoredJoin}
use Rattle.mp_replica.specs.declared.message.Identity.{Identity}
use Rattle.mp_replica.proofs.Gathered.{AreGathered, none_gathered, none_more_gathered, one_gathered}
use Rattle.mp_replica.proofs.Growing.{documents, fits_each, itself, join_of, joined_none, joined_on, joined_still, symmetric}
use Rattle.mp_replica.proofs.Identities.{decide_identity, entry_stored, stored_entry}
use Rattle.mp_replica.proofs.PairsFound.{same_less}

none_ascending : IsStrictlySortedBy identity_cmp []
unfolding IsStrictlySortedBy
none_ascending = tt

-- ---- one identity, one patch

pub one_patch : (stored : Stored) (i j : Identity) (p q : Document) → i ≡ j → stored i ≡ Some p → stored j ≡ Some q → p ≡ q
one_patch stored i j p q same at_i at_j = some_same p q (sym at_i ∙ ap stored same ∙ at_j)

differ : (stored : Stored) (i j : Identity) (q : Document) → stored i ≡ None → stored j ≡ Some q → j ≢ i
differ stored i j q none at same = let never : Some q ≡ None = sym at ∙ ap stored same ∙ none in cc

pub one_arrived : (stored : Stored) (chosen : List Identity) (i : Identity) → stored i ≢ None → HaveArrived stored chosen → HaveArrived stored (chosen ++ i ∷ [])
one_arrived stored chosen i some have j at = elim (Contains-push_cases chosen i j at) [
  | inl before ↦ have j before
  | inr same ↦ λ none. some (ap stored same ∙ none)
]

-- ---- one more patch p under i

module _ (es fs : Stored) (i : Identity) (p : Document) (absent : es i ≡ None) (more : StoresAlso es i p fs) where
  still : (j : Identity) (q : Document) → es j ≡ Some q → fs j ≡ Some q
  still j q at = more.others j (differ es i j q absent at) ∙ at

  new_or_old : (j : Identity) (q : Document) → fs j ≡ Some q → (q ≡ p) ⊎ (es j ≡ Some q)
  new_or_old j q at = elim (decide_identity j i) [
    | inl same ↦ inl (one_patch fs j i q p same at more.here)
    | inr other ↦ inr (sym (more.others j other) ∙ at)
  ]

  pub none_before : (q : Document) → ClashesWithNone fs q → ClashesWithNone es q
  none_before q none j r at = none j r (still j r at)

  pub none_after : (q : Document) → Compatible q p → ClashesWithNone es q → ClashesWithNone fs q
  none_after q agree none j r at = elim (new_or_old j r at) [
    | inl same ↦ subst (Compatible q) (sym same) agree
    | inr before ↦ none j r before
  ]

  itself_after : ClashesWithNone es p → ClashesWithNone fs p
  itself_after none = none_after p (itself p) none

  -- ---- it clashes with none

  module _ (none : ClashesWithNone es p) where
    conflicts_still : (j : Identity) → Conflicts es j ↔ Conflicts fs j
    conflicts_still j = (
      λ was. (was.0, still j was.0 was.1, λ all. was.2 (none_before was.0 all)),
      λ is. elim (new_or_old j is.0 is.1) [
        | inl same ↦ absurd (is.2 (subst (ClashesWithNone fs) (sym same) (itself_after none)))
        | inr before ↦ (is.0, before, λ all. is.2 (none_after is.0 (symmetric p is.0 (none j is.0 before)) all))
      ],
    )

    pub unclashed_more : (others : List Document) → AreUnclashed es others → AreUnclashed fs (others ++ p ∷ [])
    unclashed_more others are q = (
      λ at. elim (Contains-push_cases others p q at) [
        | inl before ↦
            let was = (are q).0 before in
            ((was.0.0, still was.0.0 q was.0.1), none_after q (symmetric p q (none was.0.0 q was.0.1)) was.1)
        | inr same ↦ subst (λ r. ((j : Identity) × (fs j ≡ Some r)) × ClashesWithNone fs r) same ((i, more.here), itself_after none)
      ],
      λ has. elim (new_or_old has.0.0 q has.0.1) [
        | inl same ↦ subst (Contains (others ++ p ∷ [])) (sym same) (Contains-push others p)
        | inr before ↦ Contains-append_left others (p ∷ []) q ((are q).1 ((has.0.0, before), none_before q has.1))
      ],
    )

  -- ---- it clashes with one

  module _ (laws : MergeLaws) (good : IsDocument p) (clash : ¬ ClashesWithNone es p) (known found : List Identity)
      (knows : (j : Identity) → Contains known j ↔ Conflicts es j) (now : AreConflictingWith es i p known found) where
    clashes_now : ¬ ClashesWithNone fs p
    clashes_now none = clash (none_before p none)

    decide : (q : Document) → Compatible p q ⊎ (¬ Compatible p q)
    decide q =
        let all = laws.all_clashes_exist p q good in
        by all.0 all.1
      where
        by : (places : List Path) → AreAllClashes p q places → Compatible p q ⊎ (¬ Compatible p q)
        by [] all = inl ((laws.none_if_compatible p q [] all).0 refl)
        by (w ∷ places) all = inr (λ agree. let never = (laws.none_if_compatible p q (w ∷ places) all).1 agree in cc)

    known_from : (j : Identity) → Conflicts fs j → Contains found j
    known_from j is = elim (decide_identity j i) [
      | inl same ↦ (now j).1 (inr same)
      | inr other ↦
          let before : es j ≡ Some is.0 = sym (more.others j other) ∙ is.1 in
          (now j).1 (inl (record {
            other = is.0;
            at = before;
            why = elim (decide is.0) [
              | inl agree ↦ inl ((knows j).1 (is.0, before, λ all. is.2 (none_after is.0 (symmetric p is.0 agree) all)))
              | inr differ ↦ inr differ
            ];
          }))
    ]

    conflicts_now : (j : Identity) → Contains found j → Conflicts fs j
    conflicts_now j at = elim ((now j).0 at) [
      | inl was ↦ (
        was.other,
        still j was.other was.at,
        λ all. elim was.why [
          | inl before ↦
              let had = (knows j).0 before in
              had.2 (subst (ClashesWithNone es) (one_patch es j j was.other had.0 refl was.at had.1) (none_before was.other all))
          | inr differ ↦ differ (symmetric was.other p (all i p more.here))
        ],
      )
      | inr same ↦ (p, subst (λ k. fs k ≡ Some p) (sym same) more.here, clashes_now)
    ]

    pub conflicts_found : (j : Identity) → Contains found j ↔ Conflicts fs j
    conflicts_found j = (conflicts_now j, known_from j)

    pub unclashed_now : (others : List Document) → AreOthers es found others → AreUnclashed fs others
    unclashed_now others are q = (
      λ at.
          let was = (are q).0 at in
          ((was.0, still was.0 q was.1), λ k r at_k w differ. was.2 (known_from was.0 (q, still was.0 q was.1, λ all. all k r at_k w differ))),
      λ has. elim (new_or_old has.0.0 q has.0.1) [
        | inl same ↦ absurd (clashes_now (subst (ClashesWithNone fs) same has.1))
        | inr before ↦ (are q).1 (
          has.0.0,
          before,
          λ at.
              let is = conflicts_now has.0.0 at in
              is.2 (subst (ClashesWithNone fs) (one_patch fs has.0.0 has.0.0 q is.0 refl has.0.1 is.1) has.1),
        )
      ],
    )

-- the patches under identities that are not known to conflict clash with none
pub quiet_clash_with_none : (stored : Stored) (known : List Identity) (j : Identity) (q : Document) → ((j : Identity) → Contains known j ↔ Conflicts stored j)
    → stored j ≡ Some q → ¬ Contains known j → ClashesWithNone stored q
quiet_clash_with_none stored known j q knows at out k r at_k w clash = out ((knows j).1 (q, at, λ all. all k r at_k w clash))

pub others_are_apart : (stored : Stored) (i : Identity) (p : Document) (known found : List Identity) → ((j : Identity) → Contains known j ↔ Conflicts stored j) → AreConflictingWith stored i p known found
    → (j k : Identity) (q r : Document) → stored j ≡ Some q → stored k ≡ Some r → ¬ Contains found j → ¬ Contains found k → Compatible q r
others_are_apart stored i p known found knows now j k q r at_j at_k out_j out_k =
    quiet_clash_with_none stored known j q knows at_j (λ at. out_j ((now j).1 (inl (record { other = q; at = at_j; why = inl at })))) k r at_k

-- an identity is in a list or is not
in_or_out : (ids : List Identity) (j : Identity) → Contains ids j ⊎ ¬ Contains ids j
in_or_out [] j = inr (Contains-nil j)
in_or_out (i ∷ ids) j = elim (in_or_out ids j) [
  | inl there ↦ inl (Contains-tail i j ids there)
  | inr out ↦ elim (decide_identity i j) [
    | inl same ↦ inl (subst (Contains (i ∷ ids)) same (Contains-head i ids))
    | inr differ ↦ inr (λ at. elim (Contains-cases i j ids at) [ inl same ↦ differ same | inr there ↦ out there ])
  ]
]

-- what is compatible with each patch is so with their join
fits_join : (laws : MergeLaws) (ds : List Document) (m : Option Document) (p : Document) → IsJoinOf ds m → ((q : Document) → Contains ds q → Compatible p q) → IfSome m (Compatible p)
fits_join laws ds None p is each = tt
fits_join laws ds (Some k) p is each = λ w clash. let one = (laws.conflict_with_a_join ds k p w is).0 clash in each one.0 one.1 w one.2

module _ (laws : MergeLaws) (stored : Stored) (known : List Identity) (others : List Document) (m : Option Document) (p : Document)
    (good : IfSome m IsDocument) (knows : (j : Identity) → Contains known j ↔ Conflicts stored j) (are : AreUnclashed stored others) (joined : HasJoined m None others) where
  -- a patch that is compatible with the join and with those that conflict clashes with none
  pub clashes_with_none : IfSome m (Compatible p) → FitsAll stored known p → ClashesWithNone stored p
  clashes_with_none fits each j q at w clash =
      let out : ¬ Contains known j = λ here. each j q here at w clash in
      fits_each laws others m p (join_of laws others m good joined) fits q ((are q).1 ((j, at), quiet_clash_with_none stored known j q knows at out)) w clash

  -- and one that clashes with none is
  pub fits_if_none : ClashesWithNone stored p → IfSome m (Compatible p)
  fits_if_none none = fits_join laws others m p (join_of laws others m good joined) (λ q at. let place = ((are q).0 at).0 in none place.0 q place.1)

pub fits_all_if_none : (stored : Stored) (known : List Identity) (p : Document) → ClashesWithNone stored p → FitsAll stored known p
fits_all_if_none stored known p none j q here at = none j q at

-- ---- the pairs, with one more patch p under i

module _ (es fs : Stored) (i : Identity) (p : Document) (absent : es i ≡ None) (more : StoresAlso es i p fs) (others : List Identity) (before now : KeptPairs)
    (there : (j : Identity) (q : Document) → es j ≡ Some q → ¬ Compatible p q → Contains others j) (noted : Notes i es p others now) where
  with_new : (j : Identity) (q : Document) → j ≢ i → fs j ≡ Some q → ¬ Compatible p q → HasBoth now i j
  with_new j q other at differ = let was : es j ≡ Some q = sym (more.others j other) ∙ at in noted j q (there j q was differ) was differ

  less_differ : (j k : Identity) → identity_cmp j k ≡ Less → j ≢ k
  less_differ j k less same = same_less j k same less

  pub pairs_now : Includes before now → (AreOrdered before → AreOrdered now) → KnowsPairs es before → KnowsPairs fs now
  pairs_now kept ordered knows = record { ordered = ordered knows.ordered; found = found }
    where
      found : (j k : Identity) → identity_cmp j k ≡ Less → DoClash fs j k → Contains now.keys (j, k)
      found j k less clash = elim (decide_identity j i) [
        | inl first ↦
            let one = one_patch fs j i clash.one p first clash.at_first more.here in
            let apart : k ≢ i = λ same. less_differ j k less (first ∙ sym same) in
            subst (λ x. Contains now.keys (x, k)) (sym first) ((with_new k clash.other apart clash.at_second (subst (λ d. ¬ Compatible d clash.other) one clash.clash)).0 (subst (λ x. identity_cmp x k ≡ Less) first less))
        | inr early ↦ elim (decide_identity k i) [
          | inl second ↦
              let one = one_patch fs k i clash.other p second clash.at_second more.here in
              let differ : ¬ Compatible p clash.one = λ agree. clash.clash (subst (Compatible clash.one) (sym one) (symmetric p clash.one agree)) in
              subst (λ x. Contains now.keys (j, x)) (sym second) ((with_new j clash.one early clash.at_first differ).1 (subst (λ x. identity_cmp j x ≡ Less) second less))
          | inr late ↦ kept (j, k) (knows.found j k less (record {
            one = clash.one;
            other = clash.other;
            at_first = sym (more.others j early) ∙ clash.at_first;
            at_second = sym (more.others k late) ∙ clash.at_second;
            clash = clash.clash;
          }))
        ]
      ]

-- ---- all that is known

pub none_known : (laws : MergeLaws) (es : List (Identity × Doc)) (known : List Identity) (pairs : KeptPairs) (join : HeldJoin) → es ≡ [] → known ≡ [] → pairs.keys ≡ [] → join.joined ≡ None → join.pending ≡ None → KnowsConflicts es known pairs join
none_known laws es known pairs join no_patch none no_pair no_join settled = record {
  ascending = rw no_patch none_ascending;
  in_pairs = record {
    ordered = λ i j at. absurd (Contains-nil (i, j) (subst (λ (l : List (Identity × Identity)). Contains l (i, j)) no_pair at));
    found = λ i j less clash. absurd (let never : None ≡ Some clash.one = subst (λ l. stored_in l i ≡ Some clash.one) no_patch clash.at_first in cc);
  };
  conflicting = λ i. (
    λ at. absurd (Contains-nil i (subst (λ (l : List Identity). Contains l i) none at)),
    λ is. absurd (let never : None ≡ Some is.0 = subst (λ l. stored_in l i ≡ Some is.0) no_patch is.1 in cc),
  );
  others = [];
  unclashed = λ p. (λ at. absurd (Contains-nil p at), λ has. absurd (let never : None ≡ Some p = subst (λ l. stored_in l has.0.0 ≡ Some p) no_patch has.0.1 in cc));
  joined = rw (no_join, settled) (joined_none laws);
}

pub knows_still : {es : List (Identity × Doc)} {known : List Identity} {pairs : KeptPairs} {before now : HeldJoin} → KnowsConflicts es known pairs before → JoinsStay before now → KnowsConflicts es known pairs now
knows_still knows stays = record {
  ascending = knows.ascending;
  in_pairs = knows.in_pairs;
  conflicting = knows.conflicting;
  others = knows.others;
  unclashed = knows.unclashed;
  joined = joined_still knows.others knows.joined stays;
}

-- a pair more does no harm
pub knows_noted : {es : List (Identity × Doc)} {known : List Identity} {pairs now : KeptPairs} {join : HeldJoin} → Includes pairs now → (AreOrdered pairs → AreOrdered now) → KnowsConflicts es known pairs join → KnowsConflicts es known now join
knows_noted kept ordered knows = record {
  ascending = knows.ascending;
  conflicting = knows.conflicting;
  in_pairs = record { ordered = ordered knows.in_pairs.ordered; found = λ i j less clash. kept (i, j) (knows.in_pairs.found i j less clash) };
  others = knows.others;
  unclashed = knows.unclashed;
  joined = knows.joined;
}

-- what is joined whole is so whatever else is stored
pub settled_in : (es fs : List (Identity × Doc)) (join : StoredJoin) → join.unjoined ≡ None → join_in es join ≡ join_in fs join
settled_in es fs join none = rw none refl

pub joined_now : {es : List (Identity × Doc)} {known : List Identity} {pairs : KeptPairs} {before : HeldJoin} → (knows : KnowsConflicts es known pairs before) → before.pending ≡ None → HasJoined (option_map document before.joined) None knows.others
joined_now {before = before} knows settled = subst (λ o. HasJoined (option_map document before.joined) (option_map document o) knows.others) settled knows.joined

-- what is known of a patch d before it is stored
module _ (laws : MergeLaws) {es : List (Identity × Doc)} (d : Doc) {known : List Identity} {pairs : KeptPairs} {before : HeldJoin} (knows : KnowsConflicts es known pairs before) (settled : before.pending ≡ None) where
  -- a patch that does not fit the join clashes with one
  pub clashes_if_unfit : ¬ IfSome (option_map document before.joined) (Compatible (document d)) → ¬ ClashesWithNone (stored_in es) (document d)
  clashes_if_unfit unfit none = unfit (fits_if_none laws (stored_in es) known knows.others (option_map document before.joined) (document d) (documents before.joined) knows.conflicting knows.unclashed (joined_now knows settled) none)

  -- one that fits it clashes with none but those that are known to conflict
  clashes_with_known : IfSome (option_map document before.joined) (Compatible (document d)) → (j : Identity) (q : Document) → stored_in es j ≡ Some q → ¬ Compatible (document d) q → ¬ ¬ Contains known j
  clashes_with_known fits j q at clash out =
      clash (fits_each laws knows.others (option_map document before.joined) (document d) (join_of laws knows.others (option_map document before.joined) (documents before.joined) (joined_now knows settled)) fits q
      ((knows.unclashed q).1 ((j, at), quiet_clash_with_none (stored_in es) known j q knows.conflicting at out)))

  pub fits_none : IfSome (option_map document before.joined) (Compatible (document d)) → FitsAll (stored_in es) known (document d) → ClashesWithNone (stored_in es) (document d)
  fits_none fits each = clashes_with_none laws (stored_in es) known knows.others (option_map document before.joined) (document d) (documents before.joined) knows.conflicting knows.unclashed (joined_now knows settled) fits each

  clash_if_some : ¬ FitsAll (stored_in es) known (document d) → ¬ ClashesWithNone (stored_in es) (document d)
  clash_if_some some none = some (fits_all_if_none (stored_in es) known (document d) none)

  -- so they are known
  clashing_known : IfSome (option_map document before.joined) (Compatible (document d)) → (j : Identity) (q : Document) → stored_in es j ≡ Some q → ¬ Compatible (document d) q → Contains known j
  clashing_known fits j q at differ = elim (in_or_out known j) [ inl here ↦ here | inr out ↦ absurd (clashes_with_known fits j q at differ out) ]

-- a patch d that fits the join is stored under i: it conflicts with those alone that conflict already
module _ (laws : MergeLaws) {es : List (Identity × Doc)} (i : Identity) (d : Doc) {known : List Identity} {pairs : KeptPairs} {before : HeldJoin} (knows : KnowsConflicts es known pairs before)
    (absent : stored_in es i ≡ None) (settled : before.pending ≡ None) (fits : IfSome (option_map document before.joined) (Compatible (document d))) where
  listed : AreConflictingWith (stored_in es) i (document d) known (known ++ i ∷ [])
  listed j = (
    λ at. elim (Contains-push_cases known i j at) [
      | inl before ↦ let is = (knows.conflicting j).0 before in inl (record { other = is.0; at = is.1; why = inl before })
      | inr same ↦ inr (sym same)
    ],
    λ now. elim now [
      | inl here ↦ elim here.why [
        | inl before ↦ Contains-append_left known (i ∷ []) j before
        | inr clash ↦ elim (in_or_out known j) [
          | inl before ↦ Contains-append_left known (i ∷ []) j before
          | inr out ↦ absurd (clashes_with_known laws d knows settled fits j here.other here.at clash out)
        ]
      ]
      | inr same ↦ subst (Contains (known ++ i ∷ [])) (sym same) (Contains-push known i)
    ],
  )

  listed_others : AreOthers (stored_in es) (known ++ i ∷ []) knows.others
  listed_others p = (
    λ at.
        let has = (knows.unclashed p).0 at in (
          has.0.0,
          has.0.1,
          λ there. elim (Contains-push_cases known i has.0.0 there) [
            | inl before ↦
                let is = (knows.conflicting has.0.0).0 before in
                is.2 (subst (ClashesWithNone (stored_in es)) (one_patch (stored_in es) has.0.0 has.0.0 p is.0 refl has.0.1 is.1) has.1)
            | inr same ↦ let never : None ≡ Some p = sym absent ∙ subst (λ j. stored_in es j ≡ Some p) (sym same) has.0.1 in cc
          ],
        ),
    λ has. (knows.unclashed p).1 ((has.0, has.1), quiet_clash_with_none (stored_in es) known has.0 p knows.conflicting has.1 (λ before. has.2 (Contains-append_left known (i ∷ []) has.0 before))),
  )

-- one more patch d is stored under i
module _ (laws : MergeLaws) {es fs : List (Identity × Doc)} {i : Identity} (d : Doc) {known : List Identity} {pairs : KeptPairs} {before : HeldJoin} (knows : KnowsConflicts es known pairs before)
    (absent : stored_in es i ≡ None) (more : StoresAlso (stored_in es) i (document d) (stored_in fs)) (ascending : IsStrictlySortedBy identity_cmp (keys_of fs))
    {grown : KeptPairs} (kept : Includes pairs grown) (ordered : AreOrdered pairs → AreOrdered grown) where
  pub knows_conflict : {found : List Identity} {now : HeldJoin} → ¬ ClashesWithNone (stored_in es) (document d)
      → AreConflictingWith (stored_in es) i (document d) known found → KnowsPairs (stored_in fs) grown → JoinsOthers (stored_in es) found now → KnowsConflicts fs found grown now
  knows_conflict {found} clash found_are in_pairs others =
      let p = document d in
      record {
        ascending = ascending;
        in_pairs = in_pairs;
        conflicting = conflicts_found (stored_in es) (stored_in fs) i p absent more laws (IsDocument-document d) clash known found knows.conflicting found_are;
        others = others.0;
        unclashed = unclashed_now (stored_in es) (stored_in fs) i p absent more laws (IsDocument-document d) clash known found knows.conflicting found_are others.0 others.1;
        joined = others.2;
      }

  -- each of those is noted
  pub knows_disputes : {found : List Identity} {now : HeldJoin} → ¬ ClashesWithNone (stored_in es) (document d) → AreConflictingWith (stored_in es) i (document d) known found
      → Notes i (stored_in es) (document d) found grown → JoinsOthers (stored_in es) found now → KnowsConflicts fs found grown now
  knows_disputes {found} clash found_are noted others =
      let there = λ (j : Identity) (q : Document) (at : stored_in es j ≡ Some q) (differ : ¬ Compatible (document d) q). (found_are j).1 (inl (record { other = q; at = at; why = inr differ })) in
      knows_conflict clash found_are (pairs_now (stored_in es) (stored_in fs) i (document d) absent more found pairs grown there noted kept ordered knows.in_pairs) others

module _ (laws : MergeLaws) {es fs : List (Identity × Doc)} {i : Identity} (d : Doc) {known : List Identity} {pairs : KeptPairs} {before : HeldJoin} (knows : KnowsConflicts es known pairs before)
    (absent : stored_in es i ≡ None) (more : StoresAlso (stored_in es) i (document d) (stored_in fs)) (ascending : IsStrictlySortedBy identity_cmp (keys_of fs)) (settled : before.pending ≡ None)
    {grown : KeptPairs} (kept : Includes pairs grown) (ordered : AreOrdered pairs → AreOrdered grown) (noted : Notes i (stored_in es) (document d) known grown) where
  pub knows_more : {now : HeldJoin} → IfSome (option_map document before.joined) (Compatible (document d)) → FitsAll (stored_in es) known (document d)
      → SameJoins (option_map document before.joined) (Some (document d)) (option_map document now.joined) (option_map document now.pending) → KnowsConflicts fs known grown now
  knows_more fits each stays =
      let p = document d in
      let held = option_map document before.joined in
      let none = fits_none laws d knows settled fits each in
      record {
        ascending = ascending;
        in_pairs = pairs_now (stored_in es) (stored_in fs) i p absent more known pairs grown (λ j q at differ. absurd (differ (none j q at))) noted kept ordered knows.in_pairs;
        conflicting = λ j. (
          λ at. (conflicts_still (stored_in es) (stored_in fs) i p absent more none j).0 ((knows.conflicting j).0 at),
          λ is. (knows.conflicting j).1 ((conflicts_still (stored_in es) (stored_in fs) i p absent more none j).1 is),
        );
        others = knows.others ++ p ∷ [];
        unclashed = unclashed_more (stored_in es) (stored_in fs) i p absent more none knows.others knows.unclashed;
        joined = joined_on laws knows.others held p (IsDocument-document d) (documents before.joined) (joined_now knows settled) fits stays;
      }

  -- so it is listed, and the join stays
  module _ (fits : IfSome (option_map document before.joined) (Compatible (document d))) (some : ¬ FitsAll (stored_in es) known (document d)) where
    pub knows_listed : {found : List Identity} → found ≡ known ++ i ∷ [] → KnowsConflicts fs found grown before
    knows_listed is = subst (λ l. KnowsConflicts fs l grown before) (sym is)
        (knows_conflict laws d knows absent more ascending kept ordered (clash_if_some laws d knows settled some) (listed laws i d knows absent settled fits) (pairs_now (stored_in es) (stored_in fs) i (document d) absent more known pairs grown (clashing_known laws d knows settled fits) noted kept ordered knows.in_pairs) (knows.others, listed_others laws i d knows absent settled fits, knows.joined))

-- and the patches that clash with none are those of before
pub still_unclashed : (laws : MergeLaws) {es : List (Identity × Doc)} (fs : List (Identity × Doc)) (i : Identity) (d : Doc) {known : List Identity} {pairs : KeptPairs} {before : HeldJoin} → (knows : KnowsConflicts es known pairs before) → stored_in es i ≡ None
    → StoresAlso (stored_in es) i (document d) (stored_in fs) → before.pending ≡ None → IfSome (option_map document before.joined) (Compatible (document d)) → ¬ FitsAll (stored_in es) known (document d)
    → (patches : List Document) → AreUnclashed (stored_in es) patches → AreUnclashed (stored_in fs) patches
still_unclashed laws {es} fs i d {known} knows absent more settled fits some patches are q =
    let now = unclashed_now (stored_in es) (stored_in fs) i (document d) absent more laws (IsDocument-document d) (clash_if_some laws d knows settled some) known (known ++ i ∷ []) knows.conflicting (listed laws i d knows absent settled fits) knows.others
    (listed_others laws i d knows absent settled fits) q in
    (λ at. now.0 ((knows.unclashed q).1 ((are q).0 at)), λ is. (are q).1 ((knows.unclashed q).0 (now.1 is)))

-- ---- walks over the entries

-- the identity of an entry that conflicts with p, or was known to conflict
abbrev pub Conflicted : Document → List Identity → Identity × Doc → Identity → Type 0
Conflicted p known e i = (e.0 ≡ i) × (Contains known e.0 ⊎ (¬ Compatible p (document e.1)))

-- all entries are passed, and the new identity is added
pub all_found : (es : List (Identity × Doc)) (p : Document) (known found : List Identity) (i : Identity) → IsStrictlySortedBy identity_cmp (keys_of es) → AreGathered (Conflicted p known) es found
    → AreConflictingWith (stored_in es) i p known (found ++ i ∷ [])
all_found es p known found i ascending are j = (
  λ at. elim (Contains-push_cases found i j at) [
    | inl before ↦
        let is = (are j).0 before in
        inl (record { other = document is.0.1; at = ap (stored_in es) (sym is.2.0) ∙ stored_entry es is.0.0 is.0.1 ascending is.1; why = subst (λ k. Contains known k ⊎ (¬ Compatible p (document is.0.1))) is.2.0 is.2.1 })
    | inr same ↦ inr (sym same)
  ],
  λ is. elim is [
    | inl was ↦
        let entry = entry_stored es j was.other was.at in
        Contains-append_left found (i ∷ []) j ((are j).1 ((j, entry.0), entry.1, (refl, subst (λ q. Contains known j ⊎ (¬ Compatible p q)) (sym entry.2) was.why)))
    | inr same ↦ subst (Contains (found ++ i ∷ [])) (sym same) (Contains-push found i)
  ],
)

-- the patch of an entry that is not among those that conflict
abbrev pub Other : List Identity → Identity × Doc → Document → Type 0
Other conflicting e p = (document e.1 ≡ p) × (¬ Contains conflicting e.0)

-- the join of those of the entries so far
pub record JoinsThose (passed : List (Identity × Doc)) (conflicting : List Identity) (join : HeldJoin) : Type 0 where
  pub patches : List Document
  pub are : AreGathered (Other conflicting) passed patches
  pub joined : IsJoined join patches

pub none_of_those : (laws : MergeLaws) (conflicting : List Identity) → JoinsThose [] conflicting (record { joined = None; pending = None })
none_of_those laws conflicting = record { patches = []; are = none_gathered (Other conflicting); joined = joined_none laws }

-- one that conflicts is passed over
pub one_over : (passed : List (Identity × Doc)) (e : Identity × Doc) (conflicting : List Identity) (join : HeldJoin) → Contains conflicting e.0 → JoinsThose passed conflicting join → JoinsThose (passed ++ e ∷ []) conflicting join
one_over passed e conflicting join here joins = record { patches = joins.patches; are = none_more_gathered (Other conflicting) passed e joins.patches joins.are (λ p other. other.1 here); joined = joins.joined }

module _ (laws : MergeLaws) (es passed : List (Identity × Doc)) (i : Identity) (d : Doc) (conflicting : List Identity) (before : Option Doc) (ascending : IsStrictlySortedBy identity_cmp (keys_of es))
    (within : (e : Identity × Doc) → Contains (passed ++ (i, d) ∷ []) e → Contains es e) (out : ¬ Contains conflicting i)
    (apart : (j k : Identity) (p q : Document) → stored_in es j ≡ Some p → stored_in es k ≡ Some q → ¬ Contains conflicting j → ¬ Contains conflicting k → Compatible p q)
    (joins : JoinsThose passed conflicting (record { joined = before; pending = None })) where
  agrees : (q : Document) → Contains joins.patches q → Compatible (document d) q
  agrees q at =
      let (e, at_e, other) = (joins.are q).0 at in
      let here = stored_entry es i d ascending (within (i, d) (Contains-push passed (i, d))) in
      let there = stored_entry es e.0 e.1 ascending (within e (Contains-append_left passed ((i, d) ∷ []) e at_e)) in
      subst (Compatible (document d)) other.0 (apart i e.0 (document d) (document e.1) here there out other.1)

  -- one more is joined
  pub one_other : (now : Option Doc) → SameJoins (option_map document before) (Some (document d)) (option_map document now) None → JoinsThose (passed ++ (i, d) ∷ []) conflicting (record { joined = now; pending = None })
  one_other now stays =
      let held = option_map document before in
      let p = document d in
      record {
        patches = joins.patches ++ p ∷ [];
        are = one_gathered (Other conflicting) passed (i, d) joins.patches joins.are p (refl, out) (λ q other. other.0);
        joined = joined_on laws joins.patches held p (IsDocument-document d) (documents before) joins.joined (fits_join laws joins.patches held p (join_of laws joins.patches held (documents before) joins.joined) agrees) stays;
      }

-- all entries are passed
pub joins_others : (es : List (Identity × Doc)) (conflicting : List Identity) (join : HeldJoin) → IsStrictlySortedBy identity_cmp (keys_of es) → JoinsThose es conflicting join → JoinsOthers (stored_in es) conflicting join
joins_others es conflicting join ascending joins = (
  joins.patches,
  λ p. (
    λ at. let (e, at_e, other) = (joins.are p).0 at in (e.0, stored_entry es e.0 e.1 ascending at_e ∙ ap Some other.0, other.1),
    λ has. let entry = entry_stored es has.0 p has.1 in (joins.are p).1 ((has.0, entry.0), entry.1, (entry.2, has.2)),
  ),
  joins.joined,
)

-- what was passed and what comes next are entries
pub within_entries : {es left more : List (Identity × Doc)} {e : Identity × Doc} {Holds : List (Identity × Doc) → Type 0} → (passed : Passed es left Holds) → left ≡ e ∷ more
    → (x : Identity × Doc) → Contains (passed.passed ++ e ∷ []) x → Contains es x
within_entries {more = more} {e = e} passed next x at =
    subst (λ l. Contains l x) (sym (Passed-next passed next ∙ sym (append_assoc passed.passed (e ∷ []) more))) (Contains-append_left (passed.passed ++ e ∷ []) more x at)
