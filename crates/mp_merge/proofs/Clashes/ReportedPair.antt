-- A list of patches is pairwise compatible, or has one pair that is reported of it; and none if it has a join or an outcome.
use Rattle.std.proofs.Common.{◌≡◌, ◌<◌, ◌⊎◌, inl, inr, ℕ, zero, suc, List, [], ◌∷◌, length, Option, None, Some, slice_get, refl, sym, ap, ◌∙◌, subst, arith}
use Rattle.std.proofs.lemmas.List.Elements.{All-contains}
use Rattle.std.proofs.lemmas.Option.{slice_get_read}
use Rattle.std.specs.List.{All, Contains}
use Rattle.mp_tree.specs.Document.{Document, IsDocument}
use Rattle.mp_tree.specs.Look.{Path, look}
use Rattle.mp_merge.specs.Application.{in_turn}
use Rattle.mp_merge.specs.Clash.{Compatible, AreConflictsOfPair}
use Rattle.mp_merge.specs.Laws.{CompatibleHaveNone, CompatibleOrReported, HasOneReportedPair, OutcomeExists}
use Rattle.mp_merge.specs.Lists.{PairwiseCompatible, CompatibleBelow, IsClashBelow, IsReportedPair}
use Rattle.mp_merge.specs.Private.Clashes.{IsFreeBelow}
use Rattle.mp_merge.specs.Outcome.{IsOutcome}
use Rattle.mp_merge.proofs.Clashes.Conflicts.{compatible_or_conflicts, conflicts_clash, one_list}
use Rattle.mp_merge.proofs.Clashes.ByName.{compatible-self, compatible-sym}
use Rattle.mp_tree.proofs.Facts.{Contains-head, Contains-tail, some_none}
use Rattle.mp_merge.proofs.Clashes.Exchange.{left_of-once}
use Rattle.mp_merge.proofs.Application.InTurn.{IsDocument-in_turn, applied_in_turn}
use Rattle.mp_merge.proofs.Joins.Numbered.{same_at}
use Rattle.mp_merge.proofs.Outcome.{follows_from_outcome}
use Rattle.mp_merge.proofs.Application.Looks.{left_of, says-has}

-- ---- the numbers and the places are one

neither_less : (i k : ℕ) → (i < k → ⊥) → (k < i → ⊥) → i ≡ k
neither_less i k one other = omega arith

no_earlier : (patches : List Document) (first second other_first other_second : ℕ) (places other_places : List Path)
    → IsReportedPair patches first second places → IsClashBelow patches other_first other_second other_places → other_second < second → ⊥
no_earlier patches first second other_first other_second places other_places reported clash less =
    conflicts_clash clash.one clash.other other_places clash.conflicts
    (reported.least_second other_second clash.other less clash.at_second other_first clash.one clash.in_order clash.at_first)

module _ (patches : List Document) (second : ℕ) where
  no_less : (first other_first : ℕ) (places other_places : List Path)
      → IsClashBelow patches first second places → IsClashBelow patches other_first second other_places → other_first < first → ⊥
  no_less first other_first places other_places one two less =
      let same = same_at patches second one.other two.other one.at_second two.at_second in
      conflicts_clash two.one two.other other_places two.conflicts
      (subst (λ (q : Document). Compatible two.one q) same (one.least_first other_first two.one less two.at_first))

  same_first : (first other_first : ℕ) (places other_places : List Path)
      → IsClashBelow patches first second places → IsClashBelow patches other_first second other_places → first ≡ other_first
  same_first first other_first places other_places one two =
      neither_less first other_first (λ less. no_less other_first first other_places places two one less) (λ less. no_less first other_first places other_places one two less)

  same_places : (first : ℕ) (places other_places : List Path) → IsClashBelow patches first second places → IsClashBelow patches first second other_places → places ≡ other_places
  same_places first places other_places one two =
      let at_one = same_at patches first two.one one.one two.at_first one.at_first in
      let at_other = same_at patches second two.other one.other two.at_second one.at_second in
      let same : AreConflictsOfPair one.one one.other other_places =
      subst (λ (q : Document). AreConflictsOfPair one.one q other_places) at_other (subst (λ (p : Document). AreConflictsOfPair p two.other other_places) at_one two.conflicts) in
      one_list one.one one.other places other_places one.conflicts.clashes same.clashes

same_second : (patches : List Document) (first second other_first other_second : ℕ) (places other_places : List Path)
    → IsReportedPair patches first second places → IsReportedPair patches other_first other_second other_places → second ≡ other_second
same_second patches first second other_first other_second places other_places one two =
    neither_less second other_second (λ less. no_earlier patches other_first other_second first second other_places places two one.clash less)
    (λ less. no_earlier patches first second other_first other_second places other_places one two.clash less)

pub one_reported_pair : HasOneReportedPair
one_reported_pair patches first second other_first other_second places other_places one two =
    let at_second = same_second patches first second other_first other_second places other_places one two in
    let clash : IsClashBelow patches first other_second places = subst (λ (k : ℕ). IsClashBelow patches first k places) at_second one.clash in
    let at_first = same_first patches other_second first other_first places other_places clash two.clash in
    let there : IsClashBelow patches other_first other_second places = subst (λ (k : ℕ). IsClashBelow patches k other_second places) at_first clash in
    (at_first, at_second, same_places patches other_second other_first places other_places there two.clash)

-- ---- if a pair is reported

Contains-numbered : (patches : List Document) (k : ℕ) (p : Document) → slice_get patches k ≡ Some p → Contains patches p
Contains-numbered [] k p at = absurd (cc)
Contains-numbered (q ∷ patches) zero p at = let same : q ≡ p = cc in subst (λ (x : Document). Contains (q ∷ patches) x) same (Contains-head q patches)
Contains-numbered (q ∷ patches) (suc k) p at = Contains-tail q p patches (Contains-numbered patches k p at)

pub compatible_have_none : CompatibleHaveNone
compatible_have_none patches first second places reported free =
    let clash = reported.clash in
    conflicts_clash clash.one clash.other places clash.conflicts
    (free clash.one clash.other (Contains-numbered patches first clash.one clash.at_first) (Contains-numbered patches second clash.other clash.at_second))

-- patches that have an outcome are pairwise compatible
compatible_from_outcome : (d : Document) (patches : List Document) (e : Document) → IsOutcome d patches e → PairwiseCompatible patches
compatible_from_outcome d patches e outcome p q one two w clash =
    let follows = follows_from_outcome d patches e outcome in
    clash.differ (left_of-once w (look p w) (look q w) clash.first clash.second
    (sym (follows.reported p one w (left_of (look p w) w) (says-has p w clash.first)) ∙ follows.reported q two w (left_of (look q w) w) (says-has q w clash.second)))

pub outcome_exists : OutcomeExists
outcome_exists d patches good all = (
  λ found. compatible_from_outcome d patches found.0 found.2,
  λ free. (in_turn d patches, IsDocument-in_turn d patches good all, applied_in_turn d patches good all free),
)

-- ---- a pair is reported, or the patches are pairwise compatible

below_suc : (i k : ℕ) → i < suc k → (i < k) ⊎ (i ≡ k)
below_suc zero zero less = inr refl
below_suc zero (suc k) less = inl (omega arith)
below_suc (suc i) zero less = absurd (omega arith)
below_suc (suc i) (suc k) less = elim (below_suc i k (omega arith)) [ inl below ↦ inl (omega arith) | inr same ↦ inr (ap suc same) ]

module _ (patches : List Document) (good : All IsDocument patches) where
  good_at : (k : ℕ) (p : Document) → slice_get patches k ≡ Some p → IsDocument p
  good_at k p at = All-contains IsDocument patches p good (Contains-numbered patches k p at)

  -- the first patch below number k that clashes with q
  abbrev ClashesBelow : ℕ → Document → Type 0
  ClashesBelow k q = (first : ℕ) × (one : Document) × (places : List Path) × (first < k) × (slice_get patches first ≡ Some one) × AreConflictsOfPair one q places × CompatibleBelow patches first q

  free_or_clash : (q : Document) (k : ℕ) → CompatibleBelow patches k q ⊎ ClashesBelow k q
  free_or_clash q zero = inl (λ i p less. absurd (omega arith))
  free_or_clash q (suc k) = elim (free_or_clash q k) [
    | inl free ↦ here free (slice_get patches k) refl
    | inr clash ↦ inr (clash.0, clash.1, clash.2, (let less = clash.3 in omega arith), clash.4, clash.5, clash.6)
  ]
    where
      more : CompatibleBelow patches k q → ((p : Document) → slice_get patches k ≡ Some p → Compatible p q) → CompatibleBelow patches (suc k) q
      more free last i p less at = elim (below_suc i k less) [
        | inl below ↦ free i p below at
        | inr same ↦ last p (ap (slice_get patches) (sym same) ∙ at)
      ]

      here : CompatibleBelow patches k q → (o : Option Document) → slice_get patches k ≡ o → CompatibleBelow patches (suc k) q ⊎ ClashesBelow (suc k) q
      here free None is = inl (more free (λ p at. some_none (slice_get patches k) p at is))
      here free (Some p) is = elim (compatible_or_conflicts p q (good_at k p is)) [
        | inl agree ↦ inl (more free (λ r at. subst (λ (d : Document). Compatible d q) (same_at patches k p r is at) agree))
        | inr clash ↦ inr (k, p, clash.0, omega arith, is, clash.1, free)
      ]

  abbrev ReportedBelow : ℕ → Type 0
  ReportedBelow k = (first : ℕ) × (second : ℕ) × (places : List Path) × (second < k) × IsReportedPair patches first second places

  free_or_reported : (k : ℕ) → ((j : ℕ) → j < k → IsFreeBelow patches j) ⊎ ReportedBelow k
  free_or_reported zero = inl (λ j less. absurd (omega arith))
  free_or_reported (suc k) = elim (free_or_reported k) [
    | inl free ↦ here free (slice_get patches k) refl
    | inr reported ↦ inr (reported.0, reported.1, reported.2, (let less = reported.3 in omega arith), reported.4)
  ]
    where
      more : ((j : ℕ) → j < k → IsFreeBelow patches j) → IsFreeBelow patches k → (j : ℕ) → j < suc k → IsFreeBelow patches j
      more free last j less = elim (below_suc j k less) [
        | inl below ↦ free j below
        | inr same ↦ subst (IsFreeBelow patches) (sym same) last
      ]

      here : ((j : ℕ) → j < k → IsFreeBelow patches j) → (o : Option Document) → slice_get patches k ≡ o → ((j : ℕ) → j < suc k → IsFreeBelow patches j) ⊎ ReportedBelow (suc k)
      here free None is = inl (more free (λ q at. some_none (slice_get patches k) q at is))
      here free (Some q) is = elim (free_or_clash q k) [
        | inl agree ↦ inl (more free (λ r at. subst (λ (d : Document). CompatibleBelow patches k d) (same_at patches k q r is at) agree))
        | inr clash ↦ inr (
          clash.0,
          k,
          clash.2,
          omega arith,
          record {
            clash = record {
              one = clash.1;
              other = q;
              at_first = clash.4;
              at_second = is;
              in_order = clash.3;
              conflicts = clash.5;
              least_first = clash.6;
            };
            least_second = λ j q below at. free j below q at;
          },
        )
      ]

  all_compatible : ((j : ℕ) → j < length patches → IsFreeBelow patches j) → PairwiseCompatible patches
  all_compatible free p q one two = by one.0 two.0 (place p one) (place q two) one.1 two.1
    where
      place : (r : Document) → (at : Contains patches r) → slice_get patches at.0 ≡ Some r
      place r at = slice_get_read patches (length patches) at.0 r refl at.1 (sym at.2)

      ordered : (i k : ℕ) → ((i < k) ⊎ (k < i)) ⊎ (i ≡ k)
      ordered zero zero = inr refl
      ordered zero (suc k) = inl (inl (omega arith))
      ordered (suc i) zero = inl (inr (omega arith))
      ordered (suc i) (suc k) = elim (ordered i k) [ inl (inl less) ↦ inl (inl (omega arith)) | inl (inr less) ↦ inl (inr (omega arith)) | inr same ↦ inr (ap suc same) ]

      by : (i k : ℕ) → slice_get patches i ≡ Some p → slice_get patches k ≡ Some q → i < length patches → k < length patches → Compatible p q
      by i k at_i at_k within also = elim (ordered i k) [
        | inl (inl less) ↦ free k also q at_k i p less at_i
        | inl (inr less) ↦ compatible-sym q p (free i within p at_i k q less at_k)
        | inr same ↦ compatible-self p q (same_at patches k p q (ap (slice_get patches) (sym same) ∙ at_i) at_k)
      ]

pub compatible_or_reported : CompatibleOrReported
compatible_or_reported patches good = elim (free_or_reported patches good (length patches)) [
  | inl free ↦ inl (all_compatible patches good free)
  | inr reported ↦ inr (reported.0, reported.1, reported.2, reported.4)
]
