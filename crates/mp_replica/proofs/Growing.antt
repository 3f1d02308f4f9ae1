-- A join in memory that grows by a patch, and what it says of the patches that were received.
use Rattle.std.proofs.Common.{Bool, IsTrue, ◌≡◌, ◌≢◌, ◌↔◌, inl, inr, true, false, true≢false, ℕ, arith, List, [], ◌∷◌, ◌++◌, Option, None, Some, IfSome, MatchOption, option_map, refl, sym, ap, ◌∙◌, subst, rules}
use Rattle.std.specs.List.{Contains}
use Rattle.std.specs.List.Sorted.{IsStrictlySortedBy}
use Rattle.std.specs.Option.{is_some}
use Rattle.std.proofs.lemmas.List.{append-nil}
use Rattle.std.proofs.lemmas.List.Elements.{All-push, All-weaker, All-contains, All-contains_itself, Contains-append_left, Contains-push_cases}
use Rattle.mp_tree.specs.Document.{Document, IsDocument}
use Rattle.mp_tree.specs.Look.{Path}
use Rattle.mp_tree.specs.View.{document}
use Rattle.mp_tree.specs.declared.doc.Doc.{Doc}
use Rattle.mp_tree.proofs.Facts.{Contains-nil, Contains-head, Contains-one, Contains-tail, IsDocument-document}
use Rattle.mp_patch.specs.Work.{no_limit}
use Rattle.mp_merge.specs.Clash.{AreAllClashes, Clash, Compatible, path_cmp}
use Rattle.mp_merge.specs.Join.{IsJoin, JoinResumes}
use Rattle.mp_merge.specs.Lists.{HaveSameMembers, PairwiseCompatible}
use Rattle.mp_replica.specs.Following.{ClashesWithOne}
use Rattle.mp_replica.specs.Held.{AreClashesWith, AreFirstClashesWith, HasJoined, IsJoinOf, Joins}
use Rattle.mp_replica.specs.Private.LawsBelow.{MergeLaws}
use Rattle.mp_replica.specs.Private.Steps.{FirstClashesWithJoin, GrewTo, Regrows, SameJoins}

pub documents : (o : Option Doc) → IfSome (option_map document o) IsDocument
documents None = tt
documents (Some d) = IsDocument-document d

-- ---- options

pub some_mapped : {X Y : Type 0} (f : X → Y) (o : Option X) (m : Option Y) → true ≡ is_some o → option_map f o ≡ m → m ≢ None
some_mapped f (Some x) m some is none = let never : Some (f x) ≡ None = is ∙ none in cc
some_mapped f None m some is none = true≢false some

pub none_mapped : {X Y : Type 0} (f : X → Y) (o : Option X) (m : Option Y) → false ≡ is_some o → option_map f o ≡ m → m ≡ None
none_mapped f (Some x) m none is = absurd (true≢false (sym none))
none_mapped f None m none is = sym is

pub none_unless : {X Y : Type 0} (f : X → Y) (o : Option X) (m : Option Y) → ((x : X) → o ≡ Some x → ⊥) → option_map f o ≡ m → m ≡ None
none_unless f (Some x) m never is = absurd (never x refl)
none_unless f None m never is = sym is

pub none_if_not : {X : Type 0} (o : Option X) → ((o ≡ None → ⊥) → ⊥) → o ≡ None
none_if_not None never = refl
none_if_not (Some x) never = absurd (never (λ none. let differ = none in cc))

-- ---- lists

none_sorted : IsStrictlySortedBy path_cmp []
unfolding IsStrictlySortedBy
none_sorted = tt

pub same_list : (ds : List Document) → HaveSameMembers ds ds
same_list ds p = (λ at. at, λ at. at)

pub same_back : (ds es : List Document) → HaveSameMembers ds es → HaveSameMembers es ds
same_back ds es same p = ((same p).1, (same p).0)

pub symmetric : (p q : Document) → Compatible p q → Compatible q p
symmetric p q free w clash = free w (record { first = clash.second; second = clash.first; differ = λ same. clash.differ (sym same) })

pub itself : (p : Document) → Compatible p p
itself p w clash = clash.differ refl

pub pairwise_push : (ds : List Document) (p : Document) → PairwiseCompatible ds → ((q : Document) → Contains ds q → Compatible p q) → PairwiseCompatible (ds ++ p ∷ [])
pairwise_push ds p free fits x y one two = elim (Contains-push_cases ds p x one) [
  | inl x_early ↦ elim (Contains-push_cases ds p y two) [
    | inl y_early ↦ free x y x_early y_early
    | inr y_last ↦ subst (Compatible x) y_last (symmetric p x (fits x x_early))
  ]
  | inr x_last ↦ elim (Contains-push_cases ds p y two) [
    | inl y_early ↦ subst (λ d. Compatible d y) x_last (fits y y_early)
    | inr y_last ↦ subst (λ d. Compatible d y) x_last (subst (Compatible p) y_last (itself p))
  ]
]

-- what has a join is compatible
pub compatible_if_joined : (ds : List Document) (j : Document) → IsJoin ds j → PairwiseCompatible ds
compatible_if_joined ds j joined x y one two w clash = clash.differ (sym (joined.said x one w clash.first) ∙ joined.said y two w clash.second)

pub joined_still : {joined pending joined' pending' : Option Document} (ds : List Document) → HasJoined joined pending ds → SameJoins joined pending joined' pending' → HasJoined joined' pending' ds
joined_still ds has stays = record {
  are_documents = has.are_documents;
  compatible = has.compatible;
  joins = λ j is. (λ here. (has.joins j is).0 ((stays j is).0 here), λ there. (stays j is).1 ((has.joins j is).1 there));
}

-- a patch that fits what is joined before fits what is joined now, and the join of both stays; if it is joined, that is what
-- is joined now
pub record IsTaken (before : Option Document) (p : Document) (now : Option Document) (is_joined : Bool) : Type 0 where
  pub fits : IfSome before (Compatible p)
  pub still : IfSome now (Compatible p)
  pub joins : SameJoins before (Some p) now (Some p)
  pub alone : IsTrue is_joined → SameJoins now (Some p) now None

pub taken_first : (p : Document) → IsTaken None p None false
taken_first p = record { fits = tt; still = tt; joins = λ j is. (λ at. at, λ at. at); alone = λ never. absurd (true≢false (sym never)) }

module _ (laws : MergeLaws) where
  one_join : (ds : List Document) (i j : Document) → IsDocument i → IsDocument j → IsJoin ds i → IsJoin ds j → i ≡ j
  one_join ds i j = laws.one_join ds ds i j (same_list ds)

  -- ---- one patch

  -- once it is joined, what is joined is the join of before and the patch
  pub grew_joins : (before now : Option Document) (p : Document) → IsDocument p → IfSome now IsDocument → GrewTo before p now → SameJoins before (Some p) now None
  grew_joins None now p good other grew j is = (
    λ same. let first : p ≡ j = (let both : Some p ≡ Some j = sym grew ∙ same in cc) in subst (IsJoin (p ∷ [])) first (laws.join_of_one p),
    λ joined. grew ∙ ap Some (one_join (p ∷ []) p j good is (laws.join_of_one p) joined),
  )
  grew_joins (Some b) (Some n) p good other grew j is =
      let same : n ≡ grew.0 = (let both = grew.1 in cc) in
      let joined : IsJoin (b ∷ p ∷ []) n = subst (IsJoin (b ∷ p ∷ [])) (sym same) grew.2 in (
        λ shown. subst (IsJoin (b ∷ p ∷ [])) (let both : Some n ≡ Some j = shown in cc) joined,
        λ other_join. ap Some (one_join (b ∷ p ∷ []) n j other is joined other_join),
      )
  grew_joins (Some b) None p good other grew j is = absurd (let both = grew.1 in cc)

  regrows_joins : (before now : Option Document) (p : Document) → Regrows before p now → SameJoins before (Some p) now (Some p)
  regrows_joins (Some b) (Some n) p left j is =
      let same : left.0 ≡ n = (let both = left.1 in cc) in
      subst (λ d. IsJoin (d ∷ p ∷ []) j ↔ IsJoin (b ∷ p ∷ []) j) same (left.2.joins j is)
  regrows_joins (Some b) None p left j is = absurd (let both = left.1 in cc)
  regrows_joins None now p left j is = absurd left

  pub grown_stays : (before now : Option Document) (patch : Doc) (left : Option Doc) → IfSome now IsDocument
      → MatchOption left (GrewTo before (document patch) now) (λ p. (p ≡ patch) × Regrows before (document patch) now) → SameJoins before (Some (document patch)) now (option_map document left)
  grown_stays before now patch None other grew = grew_joins before now (document patch) (IsDocument-document patch) other grew
  grown_stays before now patch (Some p) other left =
      subst (λ d. SameJoins before (Some (document patch)) now (Some (document d))) (sym left.0) (regrows_joins before now (document patch) left.1)

  -- ---- a list of patches

  pub join_of : (ds : List Document) (m : Option Document) → IfSome m IsDocument → HasJoined m None ds → IsJoinOf ds m
  join_of ds (Some k) good has = (has.joins k good).0 refl
  join_of [] None good has = refl
  join_of (d ∷ ds) None good has =
      let found = (laws.join_exists (d ∷ ds) (λ none. let differ = none in cc) has.are_documents).1 has.compatible in
      absurd (let differ = (has.joins found.0 found.1).1 found.2 in cc)

  -- what is compatible with the join is so with each patch
  pub fits_each : (ds : List Document) (m : Option Document) (p : Document) → IsJoinOf ds m → IfSome m (Compatible p) → (q : Document) → Contains ds q → Compatible p q
  fits_each ds (Some k) p joined fits q at = λ w clash. fits w ((laws.conflict_with_a_join ds k p w joined).1 (q, at, clash))
  fits_each ds None p none fits q at = absurd (Contains-nil q (subst (λ (l : List Document). Contains l q) none at))

  more_joins : (ds : List Document) (m : Option Document) (p j : Document) → IsJoinOf ds m → Joins m (Some p) j ↔ IsJoin (ds ++ p ∷ []) j
  more_joins ds (Some k) p j joined = (λ is. (laws.join_grows ds p k j joined).1 is, λ is. (laws.join_grows ds p k j joined).0 is)
  more_joins ds None p j none = subst (λ (l : List Document). IsJoin (p ∷ []) j ↔ IsJoin (l ++ p ∷ []) j) (sym none) (λ is. is, λ is. is)

  pub joined_on : {joined pending : Option Document} (ds : List Document) (m : Option Document) (p : Document) → IsDocument p → IfSome m IsDocument → HasJoined m None ds → IfSome m (Compatible p)
      → SameJoins m (Some p) joined pending → HasJoined joined pending (ds ++ p ∷ [])
  joined_on ds m p good m_good has fits after =
      let joined = join_of ds m m_good has in
      record {
        are_documents = All-push IsDocument ds p has.are_documents good;
        compatible = pairwise_push ds p has.compatible (fits_each ds m p joined fits);
        joins = λ j is. (λ here. (more_joins ds m p j joined).0 ((after j is).0 here), λ there. (after j is).1 ((more_joins ds m p j joined).1 there));
      }

  pub joined_none : HasJoined None None []
  joined_none = record {
    are_documents = search rules;
    compatible = λ p q at. absurd (Contains-nil p at);
    joins = λ j is. (λ none. absurd (let differ = none in cc), λ joined. absurd (laws.none_has_no_join j joined));
  }

  -- only membership counts
  pub joined_same : {joined pending : Option Document} (ds es : List Document) → HaveSameMembers ds es → HasJoined joined pending ds → HasJoined joined pending es
  joined_same ds es same has = record {
    are_documents = All-weaker (Contains es) IsDocument (λ p at. All-contains IsDocument ds p has.are_documents ((same p).1 at)) es (All-contains_itself es);
    compatible = λ p q one two. has.compatible p q ((same p).1 one) ((same q).1 two);
    joins = λ j is. (
      λ here. laws.join_of_same ds es j same ((has.joins j is).0 here),
      λ there. (has.joins j is).1 (laws.join_of_same es ds j (same_back ds es same) there),
    );
  }

  pub one_join_of : (ds : List Document) (m n : Option Document) → IfSome m IsDocument → IfSome n IsDocument → IsJoinOf ds m → IsJoinOf ds n → m ≡ n
  one_join_of ds None None one two first second = refl
  one_join_of ds (Some j) (Some k) one two first second = ap Some (one_join ds j k one two first second)
  one_join_of ds None (Some k) one two first second = absurd (laws.none_has_no_join k (subst (λ (l : List Document). IsJoin l k) first second))
  one_join_of ds (Some j) None one two first second = absurd (laws.none_has_no_join j (subst (λ (l : List Document). IsJoin l j) second first))

  -- ---- a patch that is offered

  -- two that are compatible have a join
  joined_if_fits : (n p : Document) → IsDocument n → IsDocument p → Compatible p n → (j : Document) × IsDocument j × IsJoin (n ∷ p ∷ []) j
  joined_if_fits n p good other fits =
      let alone : PairwiseCompatible (n ∷ []) = λ x y one two. subst (λ d. Compatible d y) (Contains-one n x one) (subst (Compatible n) (Contains-one n y two) (itself n)) in
      let free = pairwise_push (n ∷ []) p alone (λ q at. subst (Compatible p) (Contains-one n q at) fits) in
      (laws.join_exists (n ∷ p ∷ []) (λ none. let differ = none in cc) (All-push IsDocument (n ∷ []) p (All-push IsDocument [] n (search rules) good) other)).1 free

  -- a join that ran out of memory is of two that are compatible
  fits_if_resumed : (b p n : Document) → IsDocument p → IsDocument n → JoinResumes b p n → Compatible p b
  fits_if_resumed b p n other is left =
      let found = joined_if_fits n p is other left.compatible in
      compatible_if_joined (b ∷ p ∷ []) found.0 ((left.joins found.0 found.1).0 found.2) p b (Contains-tail b p (p ∷ []) (Contains-head p [])) (Contains-head b (p ∷ []))

  -- the join of a patch that is joined already is what is joined
  with_itself : (b p : Document) → HaveSameMembers (b ∷ p ∷ p ∷ []) (b ∷ p ∷ [])
  with_itself b p q = (
    λ at. elim (Contains-push_cases (b ∷ p ∷ []) p q at) [
      | inl early ↦ early
      | inr last ↦ subst (Contains (b ∷ p ∷ [])) last (Contains-tail b p (p ∷ []) (Contains-head p []))
    ],
    λ at. Contains-append_left (b ∷ p ∷ []) (p ∷ []) q at,
  )

  pub taken_in_part : (b p n : Document) → IsDocument p → IsDocument n → JoinResumes b p n → IsTaken (Some b) p (Some n) false
  taken_in_part b p n other is left = record { fits = fits_if_resumed b p n other is left; still = left.compatible; joins = left.joins; alone = λ never. absurd (true≢false (sym never)) }

  pub taken_whole : (b p n : Document) → IsDocument p → IsDocument n → IsJoin (b ∷ p ∷ []) n → IsTaken (Some b) p (Some n) true
  taken_whole b p n other is joined =
      let free = compatible_if_joined (b ∷ p ∷ []) n joined in
      let last = Contains-tail b p (p ∷ []) (Contains-head p []) in
      let again : (j : Document) → IsJoin (n ∷ p ∷ []) j ↔ IsJoin (b ∷ p ∷ []) j = λ j. (
        λ here. laws.join_of_same (b ∷ p ∷ p ∷ []) (b ∷ p ∷ []) j (with_itself b p) ((more_joins (b ∷ p ∷ []) (Some n) p j joined).0 here),
        λ there. (more_joins (b ∷ p ∷ []) (Some n) p j joined).1 (laws.join_of_same (b ∷ p ∷ []) (b ∷ p ∷ p ∷ []) j (same_back (b ∷ p ∷ p ∷ []) (b ∷ p ∷ []) (with_itself b p)) there),
      ) in
      let grown = grew_joins (Some b) (Some n) p other is (n, refl, joined) in
      record {
        fits = free p b last (Contains-head b (p ∷ []));
        still = λ w clash. let found = (laws.conflict_with_a_join (b ∷ p ∷ []) n p w joined).0 clash in free p found.0 last found.1 w found.2;
        joins = λ j good_j. again j;
        alone = λ whole j good_j. (λ shown. (again j).1 ((grown j good_j).0 shown), λ both. (grown j good_j).1 ((again j).0 both));
      }

  -- ---- conflicts

  some_clash : (p k : Document) → IsDocument p → ¬ Compatible p k → (w : Path) × Clash p k w
  some_clash p k good clash =
      let found = laws.all_clashes_exist p k good in
      first found.0 found.1
    where
      first : (places : List Path) → AreAllClashes p k places → (w : Path) × Clash p k w
      first [] all = absurd (clash ((laws.none_if_compatible p k [] all).0 refl))
      first (w ∷ places) all = (w, (all.all w).0 (Contains-head w places))

  -- a patch that clashes with the join clashes with one of the patches
  pub clashes_with_one : (ds : List Document) (m : Option Document) (p : Document) → IsDocument p → IsJoinOf ds m → ¬ IfSome m (Compatible p) → ClashesWithOne ds p
  clashes_with_one ds None p good joined clash = absurd (clash tt)
  clashes_with_one ds (Some k) p good joined clash = let at = some_clash p k good clash in (at.0, (laws.conflict_with_a_join ds k p at.0 joined).0 at.1)

  pub clashes_of_join : (ds : List Document) (k p : Document) (places : List Path) → IsJoin ds k → AreAllClashes p k places → AreClashesWith ds p places
  clashes_of_join ds k p places joined all = record {
    rising = all.rising;
    all = λ w. (λ at. (laws.conflict_with_a_join ds k p w joined).0 ((all.all w).0 at), λ clash. (all.all w).1 ((laws.conflict_with_a_join ds k p w joined).1 clash));
  }

  pub clashes_of_none : (ds : List Document) (p : Document) → ds ≡ [] → AreClashesWith ds p []
  clashes_of_none ds p none = record {
    rising = none_sorted;
    all = λ w. (λ at. absurd (Contains-nil w at), λ clash. absurd (Contains-nil clash.0 (subst (λ (l : List Document). Contains l clash.0) none clash.1)));
  }

  -- the first clashes with the join of some patches are the first with these
  pub first_clashes_found : (limit : ℕ) (ds : List Document) (m : Option Document) (p : Document) (places : List Path) (total : ℕ) → IsJoinOf ds m → FirstClashesWithJoin limit m p places total → AreFirstClashesWith limit ds p places total
  first_clashes_found limit ds None p places total none found = record {
    all = [];
    clashes = clashes_of_none ds p none;
    first = rw (found.0, found.1) (record { rest = []; whole = refl; unlimited = λ without. refl; within = λ limited. omega arith; longest = λ w more is. let differ = is in absurd (cc); counted = refl });
  }
  first_clashes_found limit ds (Some k) p places total joined found = record { all = found.all; clashes = clashes_of_join ds k p found.all joined found.clashes; first = found.first }

-- without a limit the first are all
pub all_clashes_found : (ds : List Document) (p : Document) (places : List Path) (total : ℕ) → AreFirstClashesWith no_limit ds p places total → AreClashesWith ds p places
all_clashes_found ds p places total found = subst (AreClashesWith ds p) (found.first.whole ∙ ap (λ rest. places ++ rest) (found.first.unlimited refl) ∙ append-nil places) found.clashes
