-- The first places of a conflict, as many as may be held.
use Rattle.std.proofs.lemmas.Bool.{lt-ltb, ltb-true}
use Rattle.std.proofs.Common.{nat_lt, ◌≡◌, ◌≢◌, ◌↔◌, ◌<◌, ◌≤◌, ◌+◌, ◌*◌, inl, inr, ℕ, Bool, true, IsTrue, List, [], ◌∷◌, length, take, get_or, zero, suc, IfSome, MatchOption, Option, None, Some, refl, ap, ◌∙◌, arith}
use Rattle.std.specs.Option.{unwrap_or}
use Rattle.std.proofs.lemmas.List.{length-append, take_more}
use Rattle.std.proofs.lemmas.List.Sums.{sum_by-append, sum_by-cons}
use Rattle.mp_tree.specs.Document.{Document, IsDocument}
use Rattle.mp_tree.specs.Look.{Path}
use Rattle.mp_pointer.specs.Weight.{place_weight}
use Rattle.mp_patch.specs.Work.{no_limit}
use Rattle.mp_merge.specs.Clash.{Compatible}
use Rattle.mp_merge.specs.Within.{AreFirstOf, places_weight}
use Rattle.mp_replica.specs.Held.{places_bound}
use Rattle.mp_replica.specs.Private.LawsBelow.{MergeLaws}
use Rattle.mp_replica.specs.Private.Steps.{FirstClashesWithJoin, HoldsClashesWithJoin}
use Rattle.mp_replica.proofs.Taking.{some_places}

-- what a test for more counts
pub counts : (m n : ℕ) → IsTrue (nat_lt m n) ↔ (m < n)
counts m n = (ltb-true m n, lt-ltb m n)

-- each place weighs something
pub fewer_than_weight : (ws : List Path) → 2 * length ws ≤ places_weight ws
fewer_than_weight [] = omega arith
fewer_than_weight (w ∷ ws) = let rest = fewer_than_weight ws in omega (arith, rest, sum_by-cons place_weight w ws)

module _ (limit : ℕ) (all places : List Path) (total : ℕ) (below : limit < no_limit) (first : AreFirstOf limit all places total) where
  limited : limit ≢ no_limit
  limited none = omega (arith, below, none)

  all_counted : length all ≡ length places + length first.rest
  all_counted = ap length first.whole ∙ length-append places first.rest

  -- more are counted than there are exactly if some are left out
  pub rest_if_more : length places < total → first.rest ≢ []
  rest_if_more less none = let counted = first.counted in omega (arith, less, counted, all_counted, ap length none)

  pub more_if_rest : first.rest ≢ [] → length places < total
  more_if_rest some = by first.rest refl
    where
      by : (rest : List Path) → first.rest ≡ rest → length places < total
      by [] is = absurd (some is)
      by (w ∷ rest) is =
          let counted = first.counted in
          let within = first.within limited in
          omega (arith, counted, within, below, all_counted, ap length is, fewer_than_weight places)

pub held_within : (m : Option Document) (p : Document) (places : List Path) (total : ℕ) (more : Bool) → ¬ IfSome m (Compatible p) → (IsTrue more ↔ (length places < total)) → FirstClashesWithJoin places_bound m p places total
    → HoldsClashesWithJoin m p (record { places = places; more = more })
held_within None p places total more clash says found = absurd (clash tt)
held_within (Some k) p places total more clash says found = (
  found.all,
  (clash, found.clashes),
  record {
    rest = found.first.rest;
    whole = found.first.whole;
    more = (
      λ yes. rest_if_more places_bound found.all places total (omega arith) found.first (says.0 yes),
      λ some. says.1 (more_if_rest places_bound found.all places total (omega arith) found.first some),
    );
    within = found.first.within (λ none. omega (arith, none));
    longest = λ w others is. inr (found.first.longest w others is);
  },
)

-- if memory ran out none is held, and there are more
pub held_nothing_of : MergeLaws → (m : Option Document) (p : Document) → IsDocument p → ¬ IfSome m (Compatible p) → HoldsClashesWithJoin m p (record { places = []; more = true })
held_nothing_of laws None p good clash = absurd (clash tt)
held_nothing_of laws (Some k) p good clash =
    let found = laws.all_clashes_exist p k good in (
      found.0,
      (clash, found.1),
      record {
        rest = found.0;
        whole = refl;
        more = (λ yes. some_places p k found.0 clash found.1, λ some. refl);
        within = omega arith;
        longest = λ w others is. inl refl;
      },
    )

-- ---- the weight of a list of places

-- what is left is there if they are within the budget
pub left_if_within : (o : Option ℕ) (budget weight : ℕ) → weight ≤ budget → MatchOption o (budget < weight) (λ left. left + weight ≡ budget) → unwrap_or o 0 + weight ≡ budget
left_if_within None budget weight within over = absurd (omega (arith, within, over))
left_if_within (Some left) budget weight within is = is

-- what is passed and the next weigh no more than all
pub next_within : (places : List Path) (k : ℕ) (d : Path) → k < length places → places_weight (take k places) + place_weight (get_or places k d) ≤ places_weight places
next_within [] k d below = omega arith
next_within (w ∷ places) zero d below = omega (arith, sum_by-cons place_weight w places)
next_within (w ∷ places) (suc k) d below = let rest = next_within places k d (omega arith) in omega (arith, rest, sum_by-cons place_weight w (take k places), sum_by-cons place_weight w places)

pub weight_passed : (places : List Path) (k : ℕ) (d : Path) → k < length places → places_weight (take (k + 1) places) ≡ places_weight (take k places) + place_weight (get_or places k d)
weight_passed places k d below = ap places_weight (take_more places k d below) ∙ omega (arith, sum_by-append place_weight (take k places) (get_or places k d ∷ []), sum_by-cons place_weight (get_or places k d) [])
