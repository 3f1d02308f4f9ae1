-- The conflicts that a walk reports: all, or those that come first within a limit.
use Rattle.std.proofs.Common.{◌≡◌, ◌≤◌, ◌<◌, ◌+◌, ◌-◌, ◌^◌, ◌⊎◌, inl, inr, ℕ, min, List, [], ◌∷◌, ◌++◌, length, suc, refl, sym, ap, ◌∙◌, subst, arith, append_assoc, append-nil}
use Rattle.std.specs.List.{sum_by}
use Rattle.mp_tree.specs.Document.{Document, Members, member, find}
use Rattle.mp_tree.specs.Look.{Path}
use Rattle.mp_pointer.specs.Weight.{place_weight}
use Rattle.mp_merge.specs.Private.Budgets.{IsBudget, add_each, admit}
use Rattle.mp_merge.specs.Private.Clashes.{Reported, WalksClashes, WalksMembers, counted, report, with_path}
use Rattle.mp_merge.specs.Private.Growth.{GrewBy}
use Rattle.mp_merge.specs.Within.{AreFirstOf, places_weight}
use Rattle.mp_merge.specs.declared.budget.Budget.{Budget}
use Rattle.mp_merge.specs.declared.budget.Budget.TheVariants.{Unlimited, Left, Over}
use Rattle.mp_merge.proofs.Budgets.{each_none, each_both, all_added, taken}
use Rattle.mp_merge.proofs.Collections.Growth.{IsRestOf, rest_after_one}

-- ---- name by name

abbrev pub IsReportedRest : Reported → Reported → Path → Members → Members → Members → Type 0
IsReportedRest before now s all left qs = IsRestOf (add_each report) (each_none report) (each_both report) before now (WalksMembers s left qs) (WalksMembers s all qs)

pub reported_after_one : (before now later : Reported) (s : Path) (all left qs : Members) (n : List ℕ) (p : Document) → IsReportedRest before now s all (member n p left) qs
    → GrewBy (add_each report) now later (WalksClashes (s ++ n ∷ []) p (find n qs)) → IsReportedRest before later s all left qs
reported_after_one before now later s all left qs n p =
    rest_after_one (add_each report) (each_none report) (each_both report) before now later (WalksClashes (s ++ n ∷ []) p (find n qs)) (WalksMembers s left qs) (WalksMembers s (member n p left) qs) (WalksMembers s all qs)
    (λ first rest here others. (first, rest, refl, here, others))

-- ---- the places, what is left of the budget, and the count

abbrev count : ℕ → Path → ℕ
count total w = counted total

in_parts : (ws : List Path) (r : Reported) → add_each report r ws ≡ (add_each (admit with_path place_weight) r.0 ws, add_each count r.1 ws)
in_parts [] r = refl
in_parts (w ∷ ws) r = in_parts ws (report r w)

all_counted : (ws : List Path) (total : ℕ) → total ≤ 2 ^ 64 - 1 → add_each count total ws ≡ min (total + length ws) (2 ^ 64 - 1)
all_counted [] total few = omega arith
all_counted (w ∷ ws) total few =
    let same : min (min (total + 1) (2 ^ 64 - 1) + length ws) (2 ^ 64 - 1) ≡ min (total + suc (length ws)) (2 ^ 64 - 1) = omega arith in
    all_counted ws (counted total) (omega arith) ∙ same

counted_from_none : (all : List Path) → add_each count 0 all ≡ min (length all) (2 ^ 64 - 1)
counted_from_none all =
    let from_none : min (0 + length all) (2 ^ 64 - 1) ≡ min (length all) (2 ^ 64 - 1) = omega arith in
    all_counted all 0 (omega arith) ∙ from_none

all_paths : (ws places : List Path) → add_each with_path places ws ≡ places ++ ws
all_paths [] places = sym (append-nil places)
all_paths (w ∷ ws) places = all_paths ws (places ++ w ∷ []) ∙ append_assoc places (w ∷ []) ws

module _ (limit : ℕ) (added rest : List Path) where
  abbrev Longest : Type 0
  Longest = (w : Path) (more : List Path) → rest ≡ w ∷ more → limit < places_weight added + place_weight w

  longest : (end : List Path × Budget)
      → ((rest ≡ []) × ¬ (end.1 ≡ Over)) ⊎ ((x : Path) × (more : List Path) × (rest ≡ x ∷ more) × (limit < sum_by place_weight added + place_weight x) × (end.1 ≡ Over)) → Longest
  longest end (inl (none, open_yet)) w more is = absurd (let never : [] ≡ w ∷ more = sym none ∙ is in cc)
  longest end (inr (x, others, here, over, ends)) w more is =
      let both : x ∷ others ≡ w ∷ more = sym here ∙ is in
      let same : x ≡ w = cc in
      subst (λ u. limit < places_weight added + place_weight u) same over

pub reported_is : (limit : ℕ) (budget : Budget) → IsBudget limit budget → (all : List Path) (r : Reported) → r ≡ add_each report (([], budget), 0) all → AreFirstOf limit all r.0.0 r.1
reported_is limit Unlimited none all r is =
    let parts = is ∙ in_parts all (([], Unlimited), 0) in
    let places : r.0.0 ≡ all = ap (λ (x : Reported). x.0.0) parts ∙ ap (λ (x : List Path × Budget). x.0) (all_added with_path place_weight all []) ∙ all_paths all [] in
    record {
      rest = [];
      whole = sym (append-nil r.0.0 ∙ places);
      unlimited = λ also. refl;
      within = λ limited. absurd (limited none);
      longest = λ w more never. absurd (cc);
      counted = ap (λ (x : Reported). x.1) parts ∙ counted_from_none all;
    }
reported_is limit (Left budget) (limited, same) all r is =
    let parts = is ∙ in_parts all (([], Left budget), 0) in
    let t = taken with_path place_weight all budget [] in
    let places : r.0.0 ≡ t.added = ap (λ (x : Reported). x.0.0) parts ∙ t.is ∙ all_paths t.added [] in
    record {
      rest = t.rest;
      whole = t.split ∙ ap (λ us. us ++ t.rest) (sym places);
      unlimited = λ none. absurd (limited none);
      within = λ also. subst (λ us. places_weight us ≤ limit) (sym places) (subst (λ (l : ℕ). places_weight t.added ≤ l) same t.within);
      longest = subst (λ (us : List Path). (w : Path) (more : List Path) → t.rest ≡ w ∷ more → limit < places_weight us + place_weight w) (sym places)
          (subst (λ (l : ℕ). Longest l t.added t.rest) same (longest budget t.added t.rest (add_each (admit with_path place_weight) ([], Left budget) all) t.ends));
      counted = ap (λ (x : Reported). x.1) parts ∙ counted_from_none all;
    }
reported_is limit Over never all r is = absurd never
