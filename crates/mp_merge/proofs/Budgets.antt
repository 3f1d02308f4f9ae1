-- What a budget takes of a list: as many elements from its front as weigh at most the budget together.
use Rattle.std.proofs.Common.{◌≡◌, ◌≤◌, ◌<◌, ◌+◌, ◌-◌, ◌⊎◌, inl, inr, ℕ, List, [], ◌∷◌, ◌++◌, Bool, true, false, if◌then◌else◌, Option, Some, None, MatchOption, nat_lt, refl, sym, ap, ◌∙◌, arith}
use Rattle.std.proofs.lemmas.Bool.{ltb-true, ltb-false}
use Rattle.std.proofs.lemmas.Bool.Decides.{eqb_tells}
use Rattle.std.proofs.lemmas.List.Sums.{sum_by-cons}
use Rattle.std.specs.List.{sum_by}
use Rattle.mp_patch.specs.Work.{no_limit}
use Rattle.mp_merge.specs.Private.Budgets.{IsBudget, left_after, budget_of, add_each, if_left, admit}
use Rattle.mp_merge.specs.declared.budget.Budget.{Budget}
use Rattle.mp_merge.specs.declared.budget.Budget.TheVariants.{Unlimited, Left, Over}

-- ---- one weight, and another

pub left_after_both : (v w : ℕ) (b : Budget) → left_after w (left_after v b) ≡ left_after (v + w) b
left_after_both v w Unlimited = refl
left_after_both v w Over = refl
left_after_both v w (Left budget) = by (nat_lt budget v) refl (nat_lt budget (v + w)) refl
  where
    then_by : (x z : Bool) → nat_lt budget v ≡ false → nat_lt (budget - v) w ≡ x → nat_lt budget (v + w) ≡ z
        → (if x then Over else Left (budget - v - w)) ≡ (if z then Over else Left (budget - (v + w)))
    then_by true true fits here both = refl
    then_by true false fits here both = absurd (omega (arith, ltb-false budget v fits, ltb-true (budget - v) w here, ltb-false budget (v + w) both))
    then_by false true fits here both = absurd (omega (arith, ltb-false budget v fits, ltb-false (budget - v) w here, ltb-true budget (v + w) both))
    then_by false false fits here both = let same : budget - v - w ≡ budget - (v + w) = omega arith in ap Left same

    by : (y : Bool) → nat_lt budget v ≡ y → (z : Bool) → nat_lt budget (v + w) ≡ z
        → left_after w (if y then Over else Left (budget - v)) ≡ (if z then Over else Left (budget - (v + w)))
    by true first true both = refl
    by true first false both = absurd (omega (arith, ltb-true budget v first, ltb-false budget (v + w) both))
    by false first z both = then_by (nat_lt (budget - v) w) z first refl both

-- ---- one element

pub nothing_left : {S : Type 0} (s more : S) (b : Budget) → b ≡ Over → if_left s more b ≡ (s, b)
nothing_left s more Unlimited over = absurd (cc)
nothing_left s more (Left left) over = absurd (cc)
nothing_left s more Over over = refl

pub something_left : {S : Type 0} (s more : S) (b : Budget) → ¬ (b ≡ Over) → if_left s more b ≡ (more, b)
something_left s more Unlimited other = refl
something_left s more (Left left) other = refl
something_left s more Over other = absurd (other refl)

-- ---- element by element

pub each_none : {S X : Type 0} (add : S → X → S) (s : S) → add_each add s [] ≡ s
each_none add s = refl

pub each_both : {S X : Type 0} (add : S → X → S) (s : S) (xs ys : List X) → add_each add (add_each add s xs) ys ≡ add_each add s (xs ++ ys)
each_both add s [] ys = refl
each_both add s (x ∷ xs) ys = each_both add (add s x) xs ys

-- what is taken of a list, if what there is at the end is `end`
pub record Taken {S X : Type 0} (add : S → X → S) (weigh : X → ℕ) (limit : ℕ) (s : S) (xs : List X) (end : S × Budget) : Type 0 where
  pub added : List X
  pub rest : List X
  pub split : xs ≡ added ++ rest
  pub is : end.0 ≡ add_each add s added
  pub within : sum_by weigh added ≤ limit
  pub ends : ((rest ≡ []) × ¬ (end.1 ≡ Over)) ⊎ ((x : X) × (more : List X) × (rest ≡ x ∷ more) × (limit < sum_by weigh added + weigh x) × (end.1 ≡ Over))

module _ {S X : Type 0} (add : S → X → S) (weigh : X → ℕ) where
  -- without a limit all are added
  pub all_added : (xs : List X) (s : S) → add_each (admit add weigh) (s, Unlimited) xs ≡ (add_each add s xs, Unlimited)
  all_added [] s = refl
  all_added (x ∷ xs) s = all_added xs (add s x)

  -- once one did not fit, none is
  pub none_added : (xs : List X) (s : S) → add_each (admit add weigh) (s, Over) xs ≡ (s, Over)
  none_added [] s = refl
  none_added (x ∷ xs) s = none_added xs s

  pub taken : (xs : List X) (limit : ℕ) (s : S) → Taken add weigh limit s xs (add_each (admit add weigh) (s, Left limit) xs)
  taken [] limit s = record {
    added = [];
    rest = [];
    split = refl;
    is = refl;
    within = omega arith;
    ends = inl (refl, λ over. cc);
  }
  taken (x ∷ xs) limit s = by_fit (nat_lt limit (weigh x)) refl (λ limit s. taken xs limit s)
    where
      by_fit : (b : Bool) → nat_lt limit (weigh x) ≡ b → ((limit : ℕ) (s : S) → Taken add weigh limit s xs (add_each (admit add weigh) (s, Left limit) xs))
          → Taken add weigh limit s (x ∷ xs) (add_each (admit add weigh) (if_left s (add s x) (if b then Over else Left (limit - weigh x))) xs)
      by_fit true is later =
          let over : limit < weigh x = ltb-true limit (weigh x) is in
          let end = none_added xs s in record {
            added = [];
            rest = x ∷ xs;
            split = refl;
            is = ap (λ r. r.0) end;
            within = omega arith;
            ends = inr (x, xs, refl, omega (arith, over), ap (λ r. r.1) end);
          }
      by_fit false is later =
          let fits : weigh x ≤ limit = ltb-false limit (weigh x) is in
          let t = later (limit - weigh x) (add s x) in record {
            added = x ∷ t.added;
            rest = t.rest;
            split = ap (λ us. x ∷ us) t.split;
            is = t.is;
            within = omega (arith, fits, t.within, sum_by-cons weigh x t.added);
            ends = further t.added t.rest (add_each (admit add weigh) (add s x, Left (limit - weigh x)) xs) fits t.ends;
          }
        where
          further : (added rest : List X) (end : S × Budget) → weigh x ≤ limit
              → ((rest ≡ []) × ¬ (end.1 ≡ Over)) ⊎ ((y : X) × (more : List X) × (rest ≡ y ∷ more) × (limit - weigh x < sum_by weigh added + weigh y) × (end.1 ≡ Over))
              → ((rest ≡ []) × ¬ (end.1 ≡ Over)) ⊎ ((y : X) × (more : List X) × (rest ≡ y ∷ more) × (limit < sum_by weigh (x ∷ added) + weigh y) × (end.1 ≡ Over))
          further added rest end fits (inl none) = inl none
          further added rest end fits (inr (y, more, is, over, ends)) = inr (y, more, is, omega (arith, fits, over, sum_by-cons weigh x added), ends)

-- ---- one list alone is taken

module _ {X : Type 0} (weigh : X → ℕ) (limit : ℕ) where
  -- with what was there before, the next of the rest is too much
  abbrev pub Ends : ℕ → List X → List X → Type 0
  Ends before places rest = (w : X) (more : List X) → rest ≡ w ∷ more → limit < before + (sum_by weigh places + weigh w)

  pub same_front : (places others rest more : List X) (before : ℕ) → places ++ rest ≡ others ++ more
      → before + sum_by weigh places ≤ limit → before + sum_by weigh others ≤ limit → Ends before places rest → Ends before others more → places ≡ others
  same_front [] [] rest more before same fits also ends also_ends = refl
  same_front [] (w ∷ others) rest more before same fits also ends also_ends =
      absurd (omega (arith, also, ends w (others ++ more) same, sum_by-cons weigh w others))
  same_front (w ∷ places) [] rest more before same fits also ends also_ends =
      absurd (omega (arith, fits, also_ends w (places ++ rest) (sym same), sum_by-cons weigh w places))
  same_front (w ∷ places) (v ∷ others) rest more before same fits also ends also_ends =
      let first : w ≡ v = cc in
      let later : places ++ rest ≡ others ++ more = cc in
      let here : sum_by weigh (w ∷ places) ≡ weigh w + sum_by weigh places = sum_by-cons weigh w places in
      let there : sum_by weigh (v ∷ others) ≡ weigh v + sum_by weigh others = sum_by-cons weigh v others in
      let alike : weigh w ≡ weigh v = ap weigh first in
      let behind = same_front places others rest more (before + weigh w) later (omega (arith, fits, here)) (omega (arith, also, there, alike))
      (λ u us is. omega (arith, ends u us is, here)) (λ u us is. omega (arith, also_ends u us is, there, alike)) in
      ap (λ u. u ∷ places) first ∙ ap (λ us. v ∷ us) behind

-- ---- a limit

-- with each limit a walk has a budget
pub some_budget : (limit : ℕ) → (b : Budget) × IsBudget limit b
some_budget limit = elim (eqb_tells limit no_limit) [ inl (tested, none) ↦ (Unlimited, none) | inr (tested, limited) ↦ (Left limit, (limited, refl)) ]
