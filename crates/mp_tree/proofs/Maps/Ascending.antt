-- Entries whose names ascend: equal look-ups make them equal.
use Rattle.std.proofs.Common.{◌≡◌, ℕ, List, [], ◌∷◌, Less, Option, Some, None, refl, sym, ap, ap₂, ◌∙◌, subst}
use Rattle.std.specs.List.{AllByRecursion}
use Rattle.std.specs.List.Sorted.{IsStrictlySortedBy}
use Rattle.std.specs.Map.{keys_of, lookup}
use Rattle.mp_tree.specs.Document.{name_cmp, is_name}
use Rattle.mp_tree.proofs.Maps.Names.{is_name-self, same_from_cmp, is_name-less, above_is_below, below-trans, cases_name, cases_same}

module _ {V : Type 0} where
  -- n is below each name
  abbrev pub Above : List ℕ → List (List ℕ × V) → Type 0
  Above n ps = AllByRecursion (λ m. name_cmp n m ≡ Less) (keys_of ps)

  above-none : (n : List ℕ) (ps : List (List ℕ × V)) → Above n ps → lookup (is_name n) ps ≡ None
  above-none n [] above = refl
  above-none n (p ∷ ps) above = rw (is_name-less n p.0 above.0) (above-none n ps above.1)

  above-trans : (n m : List ℕ) (ps : List (List ℕ × V)) → name_cmp n m ≡ Less → Above m ps → Above n ps
  above-trans n m [] less above = tt
  above-trans n m (p ∷ ps) less above = (below-trans n m p.0 less above.0, above-trans n m ps less above.1)

  here : (p : List ℕ × V) (ps : List (List ℕ × V)) → lookup (is_name p.0) (p ∷ ps) ≡ Some p.1
  here p ps = rw (is_name-self p.0)

  abbrev or_else : V → Option V → V
  or_else v None = v
  or_else v (Some w) = w

  some_is_not_none : {P : Type 0} (v : V) → Some v ≡ None → P
  some_is_not_none v e = cc

  -- a name that is below the names of one list and stands in the other
  apart : {P : Type 0} (p : List ℕ × V) (ps qs : List (List ℕ × V)) → Above p.0 qs → lookup (is_name p.0) (p ∷ ps) ≡ lookup (is_name p.0) qs → P
  apart p ps qs above e = some_is_not_none p.1 (sym (here p ps) ∙ e ∙ above-none p.0 qs above)

  tails : (n : List ℕ) (v w : V) (ps qs : List (List ℕ × V)) → Above n ps → Above n qs → ((q : List ℕ) → lookup (is_name q) ((n, v) ∷ ps) ≡ lookup (is_name q) ((n, w) ∷ qs))
      → (q : List ℕ) → lookup (is_name q) ps ≡ lookup (is_name q) qs
  tails n v w ps qs above_ps above_qs same q =
      cases_same q n (λ is. rw is (above-none n ps above_ps ∙ sym (above-none n qs above_qs))) (λ other. rw other at (same q))

  pub entries_same : (ps qs : List (List ℕ × V)) → IsStrictlySortedBy name_cmp (keys_of ps) → IsStrictlySortedBy name_cmp (keys_of qs) → ((q : List ℕ) → lookup (is_name q) ps ≡ lookup (is_name q) qs)
      → ps ≡ qs
  unfolding IsStrictlySortedBy
  entries_same [] [] a b same = refl
  entries_same [] (q ∷ qs) a b same = apart q qs [] tt (sym (same q.0))
  entries_same (p ∷ ps) [] a b same = apart p ps [] tt (same p.0)
  entries_same (p ∷ ps) (q ∷ qs) a b same =
      cases_name p.0 q.0 (λ less. apart p ps (q ∷ qs) (less, above-trans p.0 q.0 qs less b.0) (same p.0))
      (λ equal.
      let is = same_from_cmp p.0 q.0 equal in
      let again : (r : List ℕ) → lookup (is_name r) (p ∷ ps) ≡ lookup (is_name r) ((p.0, q.1) ∷ qs) = λ r. same r ∙ ap (λ k. lookup (is_name r) ((k, q.1) ∷ qs)) (sym is) in
      let above : Above p.0 qs = subst (λ k. Above k qs) (sym is) b.0 in
      let value : p.1 ≡ q.1 = ap (or_else p.1) (sym (here p ps) ∙ again p.0 ∙ here (p.0, q.1) qs) in
      let first : p ≡ q = ap₂ (λ k v. (k, v)) is value in
      ap₂ (λ r rs. r ∷ rs) first (entries_same ps qs a.1 b.1 (tails p.0 p.1 q.1 ps qs a.0 above again)))
      (λ greater. let less = above_is_below p.0 q.0 greater in apart q qs (p ∷ ps) (less, above-trans q.0 p.0 ps less a.0) (sym (same q.0)))
