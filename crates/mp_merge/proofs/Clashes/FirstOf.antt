-- What comes first of all conflicts, within a limit: it exists, and is one alone.
use Rattle.std.proofs.Common.{◌≡◌, ◌≤◌, ◌<◌, ◌+◌, ◌⊎◌, inl, inr, ◌↔◌, ℕ, List, [], ◌∷◌, ◌++◌, refl, sym, ap, ◌∙◌, subst, arith, append-nil}
use Rattle.std.proofs.lemmas.Bool.Decides.{eqb_tells}
use Rattle.std.proofs.lemmas.List.Sums.{sum_by-cons, sum_by-append}
use Rattle.mp_tree.specs.Look.{Path}
use Rattle.mp_pointer.specs.Weight.{place_weight}
use Rattle.mp_patch.specs.Work.{no_limit}
use Rattle.mp_merge.specs.Laws.{AllIfWithin, FirstConflictsExist, HasOneReportWithin, HaveOneFront, ReportedWithin, ReportedWithoutLimit}
use Rattle.mp_merge.specs.Lists.{IsReportedPair}
use Rattle.mp_merge.specs.Private.Budgets.{add_each}
use Rattle.mp_merge.specs.Private.Clashes.{report}
use Rattle.mp_merge.specs.Within.{places_weight, AreFirstOf}
use Rattle.mp_merge.proofs.Budgets.{same_front, some_budget}
use Rattle.mp_merge.proofs.Clashes.Conflicts.{clashes_exist, one_list}
use Rattle.mp_merge.proofs.Clashes.Reported.{reported_is}
use Rattle.mp_merge.proofs.Clashes.ReportedPair.{one_reported_pair}

pub some_first : (limit : ℕ) (all : List Path) → (places : List Path) × (total : ℕ) × AreFirstOf limit all places total
some_first limit all =
    let (budget, is) = some_budget limit in
    let walk = add_each report (([], budget), 0) all in
    (walk.0.0, walk.1, reported_is limit budget is all walk refl)

module _ (limit : ℕ) (all places : List Path) (total : ℕ) (first : AreFirstOf limit all places total) where
  pub all_without_limit : limit ≡ no_limit → places ≡ all
  all_without_limit none = sym (first.whole ∙ ap (λ (ws : List Path). places ++ ws) (first.unlimited none) ∙ append-nil places)

  all_within : (places ≡ all) ↔ ((limit ≡ no_limit) ⊎ (places_weight all ≤ limit))
  all_within = (
    λ same. elim (eqb_tells limit no_limit) [
      | inl (tested, none) ↦ inl none
      | inr (tested, limited) ↦ inr (subst (λ us. places_weight us ≤ limit) same (first.within limited))
    ],
    λ fits. elim fits [
      | inl none ↦ all_without_limit none
      | inr light ↦ by first.rest first.whole first.longest light
    ],
  )
    where
      by : (rest : List Path) → all ≡ places ++ rest → ((w : Path) (more : List Path) → rest ≡ w ∷ more → limit < places_weight places + place_weight w) → places_weight all ≤ limit → places ≡ all
      by [] whole longest fits = sym (whole ∙ append-nil places)
      by (w ∷ more) whole longest fits =
          absurd (omega (arith, fits, longest w more refl, ap places_weight whole, sum_by-append place_weight places (w ∷ more), sum_by-cons place_weight w more))

one_first : (limit : ℕ) (all places others : List Path) (total other_total : ℕ) → AreFirstOf limit all places total → AreFirstOf limit all others other_total
    → (places ≡ others) × (total ≡ other_total)
one_first limit all places others total other_total one two = (same, one.counted ∙ sym two.counted)
  where
    same : places ≡ others
    same = elim (eqb_tells limit no_limit) [
      | inl (tested, none) ↦ all_without_limit limit all places total one none ∙ sym (all_without_limit limit all others other_total two none)
      | inr (tested, limited) ↦
          let within : 0 + places_weight places ≤ limit = omega (arith, one.within limited) in
          let also : 0 + places_weight others ≤ limit = omega (arith, two.within limited) in
          same_front place_weight limit places others one.rest two.rest 0 (sym one.whole ∙ two.whole) within also
          (λ w more is. omega (arith, one.longest w more is)) (λ w more is. omega (arith, two.longest w more is))
    ]

-- ---- the laws

pub first_conflicts_exist : FirstConflictsExist
first_conflicts_exist limit p q good =
    let clashes = clashes_exist p q good in
    let first = some_first limit clashes.0 in (first.0, first.1, record { all = clashes.0; clashes = clashes.1; first = first.2 })

pub one_front : HaveOneFront
one_front limit p q places others total other_total one two =
    let same = one_list p q two.all one.all two.clashes one.clashes in
    one_first limit one.all places others total other_total one.first (subst (λ (ws : List Path). AreFirstOf limit ws others other_total) same two.first)

pub all_if_within : AllIfWithin
all_if_within limit p q all places total are first =
    let same = one_list p q first.all all first.clashes are in
    all_within limit all places total (subst (λ (ws : List Path). AreFirstOf limit ws places total) same first.first)

pub reported_within : ReportedWithin
reported_within limit patches first second all pair =
    let some = some_first limit all in (some.0, some.1, record { all = all; pair = pair; first_of = some.2 })

pub one_report_within : HasOneReportWithin
one_report_within limit patches first second other_first other_second places other_places total other_total one two =
    let same = one_reported_pair patches first second other_first other_second one.all two.all one.pair two.pair in
    let conflicts = one_first limit two.all places other_places total other_total (subst (λ (ws : List Path). AreFirstOf limit ws places total) same.2 one.first_of) two.first_of in
    (same.0, same.1, conflicts.0, conflicts.1)

pub reported_without_limit : ReportedWithoutLimit
reported_without_limit patches first second places total reported =
    subst (λ (ws : List Path). IsReportedPair patches first second ws) (sym (all_without_limit no_limit reported.all places total reported.first_of refl)) reported.pair
