-- Rising lists of paths: two with the same members are equal, and one under a name goes before one under the names above it.
use Rattle.std.proofs.Common.{◌≡◌, ◌⊎◌, inl, inr, ◌↔◌, ℕ, List, [], ◌∷◌, ◌++◌, map, Less, Equal, refl, sym, ap, ap₂, ◌∙◌, subst}
use Rattle.std.proofs.lemmas.Cmp.{lists_total, nat_list_cmp_total, tied_itself}
use Rattle.std.proofs.lemmas.List.Elements.{Contains-append_left, Contains-append_right, Contains-append_cases}
use Rattle.std.specs.Cmp.{IsTotalOrder}
use Rattle.std.specs.List.{Contains, AllByRecursion}
use Rattle.std.specs.List.Sorted.{IsStrictlySortedBy}
use Rattle.std.specs.Ordering.{ordering_then}
use Rattle.mp_tree.specs.Document.{name_cmp}
use Rattle.mp_tree.specs.Look.{Path}
use Rattle.mp_tree.proofs.Facts.{name_cmp-self, Contains-nil, Contains-head, Contains-tail, Contains-cases, Contains-one}
use Rattle.mp_merge.specs.Clash.{path_cmp}

path_cmp_total : IsTotalOrder path_cmp
path_cmp_total = lists_total nat_list_cmp_total

-- the path is below each of the list
abbrev Below : Path → List Path → Type 0
Below w ws = AllByRecursion (λ u. path_cmp w u ≡ Less) ws

below_each : (w u : Path) (ws : List Path) → Below w ws → Contains ws u → path_cmp w u ≡ Less
below_each w u [] below at = absurd (Contains-nil u at)
below_each w u (x ∷ ws) below at =
    elim (Contains-cases x u ws at) [ inl same ↦ ap (path_cmp w) (sym same) ∙ below.0 | inr there ↦ below_each w u ws below.1 there ]

not_below_itself : (w : Path) → path_cmp w w ≡ Less → ⊥
not_below_itself w less = let never : Equal ≡ Less = sym (tied_itself path_cmp_total w) ∙ less in absurd (cc)

not_both_ways : (u w : Path) → path_cmp u w ≡ Less → path_cmp w u ≡ Less → ⊥
not_both_ways u w one two = not_below_itself u (path_cmp_total.trans u w u one two)

pub not_among_above : (w : Path) (ws : List Path) → Below w ws → ¬ Contains ws w
not_among_above w ws below at = not_below_itself w (below_each w w ws below at)

abbrev Same : List Path → List Path → Type 0
Same us ws = (v : Path) → Contains us v ↔ Contains ws v

-- the first of both
first_same : (u w : Path) (us ws : List Path) → Below u us → Below w ws → Same (u ∷ us) (w ∷ ws) → u ≡ w
first_same u w us ws below other same = by (Contains-cases w u ws ((same u).0 (Contains-head u us))) (Contains-cases u w us ((same w).1 (Contains-head w ws)))
  where
    by : (w ≡ u) ⊎ Contains ws u → (u ≡ w) ⊎ Contains us w → u ≡ w
    by (inl is) also = sym is
    by (inr at) (inl is) = is
    by (inr at) (inr there) = absurd (not_both_ways u w (below_each u w us below there) (below_each w u ws other at))

rest_from : (u w : Path) (us ws : List Path) → u ≡ w → Below u us → ((v : Path) → Contains (u ∷ us) v → Contains (w ∷ ws) v) → (v : Path) → Contains us v → Contains ws v
rest_from u w us ws is below to v at = by (Contains-cases w v ws (to v (Contains-tail u v us at)))
  where
    by : (w ≡ v) ⊎ Contains ws v → Contains ws v
    by (inl here) = absurd (not_below_itself u (ap (path_cmp u) (is ∙ here) ∙ below_each u v us below at))
    by (inr there) = there

pub same_rising : (us ws : List Path) → IsStrictlySortedBy path_cmp us → IsStrictlySortedBy path_cmp ws → Same us ws → us ≡ ws
unfolding IsStrictlySortedBy
same_rising [] [] rising also same = refl
same_rising [] (w ∷ ws) rising also same = absurd (Contains-nil w ((same w).1 (Contains-head w ws)))
same_rising (u ∷ us) [] rising also same = absurd (Contains-nil u ((same u).0 (Contains-head u us)))
same_rising (u ∷ us) (w ∷ ws) rising also same =
    let first = first_same u w us ws rising.0 also.0 same in
    ap₂ (λ x xs. x ∷ xs) first (same_rising us ws rising.1 also.1 (λ v. (
      rest_from u w us ws first rising.0 (λ x. (same x).0) v,
      rest_from w u ws us (sym first) also.0 (λ x. (same x).1) v,
    )))

-- ---- rising lists

rising-append : (us ws : List Path) → IsStrictlySortedBy path_cmp us → IsStrictlySortedBy path_cmp ws → ((u w : Path) → Contains us u → Contains ws w → path_cmp u w ≡ Less) → IsStrictlySortedBy path_cmp (us ++ ws)
unfolding IsStrictlySortedBy
rising-append [] ws rising also below = also
rising-append (u ∷ us) ws rising also below =
    (each us rising.0, rising-append us ws rising.1 also (λ v w at there. below v w (Contains-tail u v us at) there))
  where
    all_of : (vs : List Path) → ((w : Path) → Contains vs w → path_cmp u w ≡ Less) → Below u vs
    all_of [] less = tt
    all_of (v ∷ vs) less = (less v (Contains-head v vs), all_of vs (λ w at. less w (Contains-tail v w vs at)))

    each : (vs : List Path) → Below u vs → Below u (vs ++ ws)
    each [] less = all_of ws (λ w at. below u w (Contains-head u us) at)
    each (v ∷ vs) less = (less.0, each vs less.1)

under_less : (n : List ℕ) (u w : Path) → path_cmp u w ≡ Less → path_cmp (n ∷ u) (n ∷ w) ≡ Less
under_less n u w less = ap (λ o. ordering_then o (path_cmp u w)) (name_cmp-self n) ∙ less

abbrev pub under_all : List ℕ → List Path → List Path
under_all n ws = map (λ w. n ∷ w) ws

rising-under : (n : List ℕ) (ws : List Path) → IsStrictlySortedBy path_cmp ws → IsStrictlySortedBy path_cmp (under_all n ws)
unfolding IsStrictlySortedBy
rising-under n [] rising = tt
rising-under n (w ∷ ws) rising = (each ws rising.0, rising-under n ws rising.1)
  where
    each : (vs : List Path) → Below w vs → Below (n ∷ w) (under_all n vs)
    each [] less = tt
    each (v ∷ vs) less = (under_less n w v less.0, each vs less.1)

Contains-under : (n : List ℕ) (w : Path) (ws : List Path) → Contains ws w → Contains (under_all n ws) (n ∷ w)
Contains-under n w [] at = absurd (Contains-nil w at)
Contains-under n w (v ∷ ws) at = elim (Contains-cases v w ws at) [
  | inl is ↦ subst (λ u. Contains (under_all n (v ∷ ws)) (n ∷ u)) is (Contains-head (n ∷ v) (under_all n ws))
  | inr there ↦ Contains-tail (n ∷ v) (n ∷ w) (under_all n ws) (Contains-under n w ws there)
]

from_under : (n : List ℕ) (v : Path) (ws : List Path) → Contains (under_all n ws) v → (w : Path) × Contains ws w × (n ∷ w ≡ v)
from_under n v [] at = absurd (Contains-nil v at)
from_under n v (w ∷ ws) at = elim (Contains-cases (n ∷ w) v (under_all n ws) at) [
  | inl is ↦ (w, Contains-head w ws, is)
  | inr there ↦ let rest = from_under n v ws there in (rest.0, Contains-tail w rest.0 ws rest.1, rest.2)
]

-- ---- the rising list of all paths of which a fact holds

pub record Lists (P : Path → Type 0) (places : List Path) : Type 0 where
  pub rising : IsStrictlySortedBy path_cmp places
  pub all : (w : Path) → Contains places w ↔ P w

pub lists_none : (P : Path → Type 0) → ((w : Path) → ¬ P w) → Lists P []
unfolding IsStrictlySortedBy
lists_none P never = record { rising = tt; all = λ w. (λ at. absurd (Contains-nil w at), λ here. absurd (never w here)) }

pub lists_root : (P : Path → Type 0) → P [] → ((w : Path) → P w → w ≡ []) → Lists P ([] ∷ [])
unfolding IsStrictlySortedBy
lists_root P here alone = record {
  rising = (tt, tt);
  all = λ w. (λ at. subst P (Contains-one [] w at) here, λ there. subst (Contains ([] ∷ [])) (sym (alone w there)) (Contains-head [] []));
}

-- w begins with a name that is above n
abbrev pub BeginsAbove : List ℕ → Path → Type 0
BeginsAbove n w = (k : List ℕ) × (u : Path) × (w ≡ k ∷ u) × (name_cmp n k ≡ Less)

-- what holds under the first name, and what holds under names above it
module _ (n : List ℕ) (First Rest Whole : Path → Type 0) (first rest : List Path) (one : Lists First first) (others : Lists Rest rest) (from_first : (w : Path) → First w → Whole (n ∷ w))
    (from_rest : (w : Path) → Rest w → Whole w) (above : (w : Path) → Rest w → BeginsAbove n w) (split : (w : Path) → Whole w → ((u : Path) × (n ∷ u ≡ w) × First u) ⊎ Rest w) where
  to_place : (w : Path) → Contains (under_all n first ++ rest) w → Whole w
  to_place w at = elim (Contains-append_cases (under_all n first) rest w at) [
    | inl here ↦ let u = from_under n w first here in subst Whole u.2 (from_first u.0 ((one.all u.0).0 u.1))
    | inr there ↦ from_rest w ((others.all w).0 there)
  ]

  from_place : (w : Path) → Whole w → Contains (under_all n first ++ rest) w
  from_place w whole = elim (split w whole) [
    | inl here ↦ subst (Contains (under_all n first ++ rest)) here.1 (Contains-append_left (under_all n first) rest (n ∷ here.0) (Contains-under n here.0 first ((one.all here.0).1 here.2)))
    | inr there ↦ Contains-append_right (under_all n first) rest w ((others.all w).1 there)
  ]

  ascending : (u w : Path) → Contains (under_all n first) u → Contains rest w → path_cmp u w ≡ Less
  ascending u w at there =
      let v = from_under n u first at in
      let k = above w ((others.all w).0 there) in
      ap₂ path_cmp (sym v.2) k.2 ∙ ap (λ o. ordering_then o (path_cmp v.0 k.1)) k.3

  pub lists_both : Lists Whole (under_all n first ++ rest)
  lists_both = record {
    rising = rising-append (under_all n first) rest (rising-under n first one.rising) others.rising ascending;
    all = λ w. (to_place w, from_place w);
  }
