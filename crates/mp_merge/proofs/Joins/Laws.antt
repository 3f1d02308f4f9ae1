-- The laws of join.
use Rattle.std.proofs.Common.{◌≡◌, ◌≢◌, ◌≤◌, ◌⊎◌, inl, inr, ◌↔◌, ℕ, List, [], ◌∷◌, ◌++◌, refl, sym, ap, ◌∙◌, subst, arith}
use Rattle.std.proofs.lemmas.List.Elements.{All-contains, All-contains_itself, All-head, All-tail, All-weaker, Contains-append_cases, Contains-append_left, Contains-append_right, Contains-push, Contains-push_cases}
use Rattle.std.specs.List.{All, Contains}
use Rattle.mp_tree.specs.Document.{Document, IsDocument, depth}
use Rattle.mp_tree.specs.Look.{Path, nothing, look}
use Rattle.mp_tree.proofs.Facts.{equal_looks, is_here, speaks_or_silent, Contains-nil, Contains-head, Contains-tail, Contains-cases, Contains-one, nothing_or}
use Rattle.mp_merge.specs.Clash.{Clash, Compatible}
use Rattle.mp_merge.specs.Join.{IsJoin}
use Rattle.mp_merge.specs.Laws.{ClashWithAJoin, ClashesWithAMember, JoinIsIdempotent, JoinIsCommutative, IsJoinFromLeft, IsJoinFromRight, JoinIsAssociative, JoinGrows, JoinInParts, JoinOfSame, JoinAbsorbs, JoinTriesResume, HasOneJoin, EmptyHasNoJoin, JoinExists, PairHasJoin, JoinIsNoDeeper}
use Rattle.mp_merge.specs.Lists.{PairwiseCompatible, AreNoDeeper, HaveSameMembers}
use Rattle.mp_merge.specs.Private.Unions.{union}
use Rattle.mp_merge.proofs.Joins.Union.{IsDocument-union, depth-union, join-one, union_is_join, union_joins_first}

-- what a join has, some patch has
pub from_join : (patches : List Document) (j : Document) → IsJoin patches j → (w : Path) → look j w ≢ nothing → (p : Document) × Contains patches p × (look p w ≢ nothing) × (look j w ≡ look p w)
from_join patches j joined w has =
    elim (speaks_or_silent patches w) [
      | inl some ↦ (some.0, some.1, some.2, joined.said some.0 some.1 w some.2)
      | inr none ↦ absurd (has (joined.silent w none))
    ]

-- ---- only membership counts

pub join_of_same : JoinOfSame
join_of_same ps qs j same joined = record {
  said = λ p at. joined.said p ((same p).1 at);
  silent = λ w none. joined.silent w (λ p at. none p ((same p).0 at));
}

Contains-swap : {X : Type 0} (x y z : X) → Contains (x ∷ y ∷ []) z → Contains (y ∷ x ∷ []) z
Contains-swap x y z at = by (Contains-cases x z (y ∷ []) at)
  where
    by : (x ≡ z) ⊎ Contains (y ∷ []) z → Contains (y ∷ x ∷ []) z
    by (inl same) = rw (← same) (Contains-tail y x (x ∷ []) (Contains-head x []))
    by (inr at) = rw (← Contains-one y z at) (Contains-head y (x ∷ []))

pub join_is_idempotent : JoinIsIdempotent
join_is_idempotent p = record {
  said = λ q at w has. ap (λ d. look d w) (elim (Contains-cases p q (p ∷ []) at) [ inl same ↦ same | inr there ↦ Contains-one p q there ]);
  silent = λ w none. none p (Contains-head p (p ∷ []));
}

pub join_is_commutative : JoinIsCommutative
join_is_commutative p q j = (
  join_of_same (p ∷ q ∷ []) (q ∷ p ∷ []) j (λ r. (Contains-swap p q r, Contains-swap q p r)),
  join_of_same (q ∷ p ∷ []) (p ∷ q ∷ []) j (λ r. (Contains-swap q p r, Contains-swap p q r)),
)

-- ---- one join

pub one_join : (patches : List Document) (i j : Document) → IsDocument i → IsDocument j → IsJoin patches i → IsJoin patches j → i ≡ j
one_join patches i j good other joined also = (equal_looks i j good other).1 (λ w.
    elim (speaks_or_silent patches w) [
      | inl some ↦ joined.said some.0 some.1 w some.2 ∙ sym (also.said some.0 some.1 w some.2)
      | inr none ↦ joined.silent w none ∙ sym (also.silent w none)
    ])

pub same_join : HasOneJoin
same_join ps qs i j same good other joined also = one_join qs i j good other (join_of_same ps qs i same joined) also

-- lists that have a join in common have the same joins
pub same_joins : (ps qs : List Document) (j : Document) → IsDocument j → IsJoin ps j → IsJoin qs j → (i : Document) → IsDocument i → IsJoin ps i ↔ IsJoin qs i
same_joins ps qs j good one two i other = (
  λ joined. subst (IsJoin qs) (one_join ps j i good other one joined) two,
  λ joined. subst (IsJoin ps) (one_join qs j i good other two joined) one,
)

pub empty_has_no_join : EmptyHasNoJoin
empty_has_no_join j joined = is_here j (joined.silent [] (λ p at. absurd (Contains-nil p at)))

-- ---- clashes with a join

pub conflict_with_a_join : ClashWithAJoin
conflict_with_a_join patches j r w joined = (to, from)
  where
    to : Clash r j w → ClashesWithAMember patches r w
    to clash =
        let some = from_join patches j joined w clash.second in
        (some.0, some.1, record { first = clash.first; second = some.2; differ = λ same. clash.differ (same ∙ sym some.3) })

    from : ClashesWithAMember patches r w → Clash r j w
    from some =
        let same = joined.said some.0 some.1 w some.2.second in
        record { first = some.2.first; second = λ none. some.2.second (sym same ∙ none); differ = λ alike. some.2.differ (alike ∙ same) }

-- a patch is compatible with a join if it is with each patch that was joined
pub compatible_with_join : (patches : List Document) (j r : Document) → IsJoin patches j → ((p : Document) → Contains patches p → Compatible r p) → Compatible r j
compatible_with_join patches j r joined free w clash = let some = (conflict_with_a_join patches j r w joined).0 clash in free some.0 some.1 w some.2

-- ---- a join exists exactly if the patches are pairwise compatible

pub compatible_from_join : (patches : List Document) (j : Document) → IsJoin patches j → PairwiseCompatible patches
compatible_from_join patches j joined p q one two w clash = clash.differ (sym (joined.said p one w clash.first) ∙ joined.said q two w clash.second)

-- what the patches have and each union keeps, the join has too
pub join_from_compatible : (P : Document → Type 0) → ((p j : Document) → P p → P j → P (union p j)) → (p : Document) (patches : List Document) → All P (p ∷ patches) → PairwiseCompatible (p ∷ patches)
    → (j : Document) × P j × IsJoin (p ∷ patches) j
join_from_compatible P keeps p [] good free = (p, All-head P p [] good, join-one p)
join_from_compatible P keeps p (q ∷ patches) good free =
    grown (join_from_compatible P keeps q patches (All-tail P p (q ∷ patches) good) (λ r s one two. free r s (Contains-tail p r (q ∷ patches) one) (Contains-tail p s (q ∷ patches) two)))
  where
    grown : (j : Document) × P j × IsJoin (q ∷ patches) j → (j : Document) × P j × IsJoin (p ∷ q ∷ patches) j
    grown before =
        let j = before.0 in
        let apart = compatible_with_join (q ∷ patches) j p before.2 (λ r at. free p r (Contains-head p (q ∷ patches)) (Contains-tail p r (q ∷ patches) at)) in
        (union p j, keeps p j (All-head P p (q ∷ patches) good) before.1, union_joins_first (q ∷ patches) p j before.2 apart)

pub join_exists : JoinExists
join_exists [] some good = absurd (some refl)
join_exists (p ∷ patches) some good = (λ found. compatible_from_join (p ∷ patches) found.0 found.2, join_from_compatible IsDocument IsDocument-union p patches good)

pub pair_has_join : PairHasJoin
pair_has_join p q first second = (
  λ found. compatible_from_join (p ∷ q ∷ []) found.0 found.2 p q (Contains-head p (q ∷ [])) (Contains-tail p q (q ∷ []) (Contains-head q [])),
  λ free. (union p q, IsDocument-union p q first second, union_is_join p q first second free),
)

module _ (n : ℕ) where
  abbrev pub IsWithin : Document → Type 0
  IsWithin d = IsDocument d × (depth d ≤ n)

  pub union_is_within : (p j : Document) → IsWithin p → IsWithin j → IsWithin (union p j)
  union_is_within p j one two = (IsDocument-union p j one.0 two.0, omega (arith, depth-union p j, one.1, two.1))

  are_within : (patches : List Document) → All IsDocument patches → AreNoDeeper n patches → All IsWithin patches
  are_within patches all within = All-weaker (Contains patches) IsWithin (λ p at. (All-contains IsDocument patches p all at, All-contains (λ d. depth d ≤ n) patches p within at)) patches (All-contains_itself patches)

pub join_is_no_deeper : JoinIsNoDeeper
join_is_no_deeper [] j n good all joined within = absurd (empty_has_no_join j joined)
join_is_no_deeper (p ∷ patches) j n good all joined within =
    let made = join_from_compatible (IsWithin n) (union_is_within n) p patches (are_within n (p ∷ patches) all within) (compatible_from_join (p ∷ patches) j joined) in
    subst (λ d. depth d ≤ n) (one_join (p ∷ patches) made.0 j made.1.0 good made.2 joined) made.1.1

-- ---- a join in place of the patches that were joined

-- b is the join of the one list, and `all` has the patches of both: j is the join of `all` exactly if it is that of b and the rest
module _ (patches rest all : List Document) (b : Document) (joined : IsJoin patches b)
    (cases : (p : Document) → Contains all p → Contains patches p ⊎ Contains rest p) (one : (p : Document) → Contains patches p → Contains all p) (two : (p : Document) → Contains rest p → Contains all p) where
  pub join_to_parts : (j : Document) → IsJoin all j → IsJoin (b ∷ rest) j
  join_to_parts j whole = record { said = said; silent = silent }
    where
      said_by : (p : Document) → (b ≡ p) ⊎ Contains rest p → (w : Path) → look p w ≢ nothing → look j w ≡ look p w
      said_by p (inl is) w has =
          let some = from_join patches b joined w (λ none. has (ap (λ d. look d w) (sym is) ∙ none)) in
          whole.said some.0 (one some.0 some.1) w some.2 ∙ sym some.3 ∙ ap (λ d. look d w) is
      said_by p (inr at) w has = whole.said p (two p at) w has

      said : (p : Document) → Contains (b ∷ rest) p → (w : Path) → look p w ≢ nothing → look j w ≡ look p w
      said p at = said_by p (Contains-cases b p rest at)

      silent_by : (w : Path) → ((p : Document) → Contains (b ∷ rest) p → look p w ≡ nothing) → (p : Document) → Contains patches p ⊎ Contains rest p → look p w ≡ nothing
      silent_by w none p (inl at) =
          elim (nothing_or (look p w)) [ inl is ↦ is | inr has ↦ sym (joined.said p at w has) ∙ none b (Contains-head b rest) ]
      silent_by w none p (inr at) = none p (Contains-tail b p rest at)

      silent : (w : Path) → ((p : Document) → Contains (b ∷ rest) p → look p w ≡ nothing) → look j w ≡ nothing
      silent w none = whole.silent w (λ p at. silent_by w none p (cases p at))

  pub join_from_parts : (j : Document) → IsJoin (b ∷ rest) j → IsJoin all j
  join_from_parts j whole = record { said = said; silent = silent }
    where
      said_by : (p : Document) → Contains patches p ⊎ Contains rest p → (w : Path) → look p w ≢ nothing → look j w ≡ look p w
      said_by p (inl at) w has =
          let same = joined.said p at w has in
          whole.said b (Contains-head b rest) w (λ none. has (sym same ∙ none)) ∙ same
      said_by p (inr at) w has = whole.said p (Contains-tail b p rest at) w has

      said : (p : Document) → Contains all p → (w : Path) → look p w ≢ nothing → look j w ≡ look p w
      said p at = said_by p (cases p at)

      silent_by : (w : Path) → ((p : Document) → Contains all p → look p w ≡ nothing) → (p : Document) → (b ≡ p) ⊎ Contains rest p → look p w ≡ nothing
      silent_by w none p (inl is) = ap (λ d. look d w) (sym is) ∙ joined.silent w (λ q at. none q (one q at))
      silent_by w none p (inr at) = none p (two p at)

      silent : (w : Path) → ((p : Document) → Contains all p → look p w ≡ nothing) → look j w ≡ nothing
      silent w none = whole.silent w (λ p at. silent_by w none p (Contains-cases b p rest at))

pub join_grows : JoinGrows
join_grows patches q kept j joined =
    let cases = λ (p : Document). Contains-append_cases patches (q ∷ []) p in
    let one = λ (p : Document). Contains-append_left patches (q ∷ []) p in
    let two = λ (p : Document). Contains-append_right patches (q ∷ []) p in
    (join_to_parts patches (q ∷ []) (patches ++ q ∷ []) kept joined cases one two j, join_from_parts patches (q ∷ []) (patches ++ q ∷ []) kept joined cases one two j)

Contains-turn : {X : Type 0} (xs ys : List X) (x : X) → Contains (xs ++ ys) x → Contains ys x ⊎ Contains xs x
Contains-turn xs ys x at = elim (Contains-append_cases xs ys x at) [ inl early ↦ inr early | inr late ↦ inl late ]

pushed_first : (patches : List Document) (q : Document) → HaveSameMembers (patches ++ q ∷ []) (q ∷ patches)
pushed_first patches q p = (
  λ at. elim (Contains-push_cases patches q p at) [ inl early ↦ Contains-tail q p patches early | inr last ↦ subst (Contains (q ∷ patches)) last (Contains-head q patches) ],
  λ at. elim (Contains-cases q p patches at) [ inl first ↦ subst (Contains (patches ++ q ∷ [])) first (Contains-push patches q) | inr rest ↦ Contains-append_left patches (q ∷ []) p rest ],
)

pub join_in_parts : JoinInParts
join_in_parts patches others kept j joined =
    let turned = λ (p : Document). Contains-turn patches others p in
    let one = λ (p : Document). Contains-append_right patches others p in
    let two = λ (p : Document). Contains-append_left patches others p in
    let first = pushed_first patches kept in (
      λ whole. join_of_same (kept ∷ patches) (patches ++ kept ∷ []) j (λ p. ((first p).1, (first p).0)) (join_to_parts others patches (patches ++ others) kept joined turned one two j whole),
      λ parts. join_from_parts others patches (patches ++ others) kept joined turned one two j (join_of_same (patches ++ kept ∷ []) (kept ∷ patches) j first parts),
    )

-- ---- joining again

pub join_absorbs : JoinAbsorbs
join_absorbs p q j joined = record {
  said = λ r at w has. elim (Contains-cases j r (q ∷ []) at) [
    | inl is ↦ ap (λ d. look d w) is
    | inr there ↦ joined.said r (Contains-tail p r (q ∷ []) there) w has
  ];
  silent = λ w none. none j (Contains-head j (q ∷ []));
}

pub join_tries_resume : JoinTriesResume
join_tries_resume before p [] j good tries = (λ joined. joined, λ joined. joined)
join_tries_resume before p (now ∷ rest) j good tries =
    let here = tries.0.joins j good in
    let later = join_tries_resume now p rest j good tries.1 in
    (λ joined. here.0 (later.0 joined), λ joined. later.1 (here.1 joined))

-- ---- joining is associative

module _ (p q r j : Document) (first : IsDocument p) (second : IsDocument q) (third : IsDocument r) where
  abbrev three : List Document
  three = p ∷ q ∷ r ∷ []

  from_left : IsJoinFromLeft p q r j → IsJoin three j
  from_left left =
      join_from_parts (p ∷ q ∷ []) (r ∷ []) three left.both left.joined (λ x. Contains-append_cases (p ∷ q ∷ []) (r ∷ []) x)
      (λ x. Contains-append_left (p ∷ q ∷ []) (r ∷ []) x) (λ x. Contains-append_right (p ∷ q ∷ []) (r ∷ []) x) j left.whole

  -- the last two, and the first
  last_cases : (x : Document) → Contains three x → Contains (q ∷ r ∷ []) x ⊎ Contains (p ∷ []) x
  last_cases x at = elim (Contains-append_cases (p ∷ []) (q ∷ r ∷ []) x at) [ inl here ↦ inr here | inr there ↦ inl there ]

  from_right : IsJoinFromRight p q r j → IsJoin three j
  from_right right =
      join_from_parts (q ∷ r ∷ []) (p ∷ []) three right.both right.joined last_cases
      (λ x. Contains-append_right (p ∷ []) (q ∷ r ∷ []) x) (λ x. Contains-append_left (p ∷ []) (q ∷ r ∷ []) x) j ((join_is_commutative p right.both j).0 right.whole)

  to_left : IsJoin three j → IsJoinFromLeft p q r j
  to_left joined =
      let free = compatible_from_join three j joined p q (Contains-head p (q ∷ r ∷ [])) (Contains-tail p q (q ∷ r ∷ []) (Contains-head q (r ∷ []))) in
      let pair = union_is_join p q first second free in
      record {
        both = union p q;
        good = IsDocument-union p q first second;
        joined = pair;
        whole = join_to_parts (p ∷ q ∷ []) (r ∷ []) three (union p q) pair (λ x. Contains-append_cases (p ∷ q ∷ []) (r ∷ []) x)
            (λ x. Contains-append_left (p ∷ q ∷ []) (r ∷ []) x) (λ x. Contains-append_right (p ∷ q ∷ []) (r ∷ []) x) j joined;
      }

  to_right : IsJoin three j → IsJoinFromRight p q r j
  to_right joined =
      let free = compatible_from_join three j joined q r (Contains-tail p q (q ∷ r ∷ []) (Contains-head q (r ∷ []))) (Contains-tail p r (q ∷ r ∷ []) (Contains-tail q r (r ∷ []) (Contains-head r []))) in
      let pair = union_is_join q r second third free in
      let parts = join_to_parts (q ∷ r ∷ []) (p ∷ []) three (union q r) pair last_cases
      (λ x. Contains-append_right (p ∷ []) (q ∷ r ∷ []) x) (λ x. Contains-append_left (p ∷ []) (q ∷ r ∷ []) x) j joined in
      record {
        both = union q r;
        good = IsDocument-union q r second third;
        joined = pair;
        whole = (join_is_commutative (union q r) p j).0 parts;
      }

pub join_is_associative : JoinIsAssociative
join_is_associative p q r j first second third = (
  λ left. to_right p q r j first second third (from_left p q r j first second third left),
  λ right. to_left p q r j first second third (from_right p q r j first second third right),
)
