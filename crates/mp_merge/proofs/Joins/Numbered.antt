-- Patches by their numbers, and the join of those below a number.
use Rattle.std.proofs.Common.{◌≡◌, ◌<◌, ◌≤◌, ◌+◌, ◌⊎◌, inl, inr, ℕ, zero, suc, List, [], ◌∷◌, ◌++◌, length, map, take, get_or, Some, option_map, slice_get, refl, sym, ap, ◌∙◌, subst, arith}
use Rattle.std.proofs.lemmas.List.{take_more, get_or-take, length-take-le}
use Rattle.std.proofs.lemmas.Option.{slice_get-map, slice_get_read, get_or_from_slice_get}
use Rattle.std.specs.List.{Contains}
use Rattle.mp_tree.specs.Document.{Document, IsDocument}
use Rattle.mp_tree.specs.Look.{Path}
use Rattle.mp_merge.specs.Clash.{Compatible}
use Rattle.mp_merge.specs.Join.{IsJoin}
use Rattle.mp_merge.specs.Lists.{CompatibleBelow, IsClashBelow, IsReportedPair}
use Rattle.mp_merge.specs.Private.Clashes.{IsFreeBelow}
use Rattle.mp_merge.specs.Private.Unions.{union}
use Rattle.mp_merge.proofs.Clashes.ByName.{compatible-sym}
use Rattle.mp_merge.proofs.Joins.Laws.{compatible_from_join, compatible_with_join}
use Rattle.mp_merge.proofs.Joins.Union.{union_grows_join}

pub at_number : {V : Type 0} (f : V → Document) (vs : List V) (i : ℕ) (v : V) → i < length vs → v ≡ get_or vs i v → slice_get (map f vs) i ≡ Some (f v)
at_number f vs i v below is = slice_get-map f vs i ∙ ap (option_map f) (slice_get_read vs (length vs) i v refl below is)

pub same_at : (patches : List Document) (k : ℕ) (p q : Document) → slice_get patches k ≡ Some p → slice_get patches k ≡ Some q → p ≡ q
same_at patches k p q one other = let same = sym one ∙ other in cc

pub below_more : (patches : List Document) (k : ℕ) (p q : Document) → slice_get patches k ≡ Some p → Compatible p q → CompatibleBelow patches k q → CompatibleBelow patches (k + 1) q
below_more patches k p q at free below i r less at_i = by (split i k less)
  where
    split : (i k : ℕ) → i < k + 1 → (i < k) ⊎ (i ≡ k)
    split zero zero less = inr refl
    split zero (suc k) less = inl (omega arith)
    split (suc i) zero less = absurd (omega arith)
    split (suc i) (suc k) less = by_one (split i k (omega arith))
      where
        by_one : (i < k) ⊎ (i ≡ k) → (suc i < suc k) ⊎ (suc i ≡ suc k)
        by_one (inl below) = inl (omega arith)
        by_one (inr same) = inr (ap suc same)

    by : (i < k) ⊎ (i ≡ k) → Compatible r q
    by (inl early) = below i r early at_i
    by (inr same) = subst (λ d. Compatible d q) (same_at patches k p r at (sym (ap (slice_get patches) same) ∙ at_i)) free

-- ---- the patches below a number

contains_below : (patches : List Document) (k i : ℕ) (p : Document) → i < k → k ≤ length patches → slice_get patches i ≡ Some p → Contains (take k patches) p
contains_below patches k i p less within at =
    let long = length-take-le k patches within in
    let is : get_or (take k patches) i p ≡ p = get_or-take k patches i p less ∙ get_or_from_slice_get patches i p p at in
    (i, omega (arith, long), is)

below_contains : (patches : List Document) (k : ℕ) (p : Document) → k ≤ length patches → Contains (take k patches) p → (i : ℕ) × (i < k) × (slice_get patches i ≡ Some p)
below_contains patches k p within at =
    let long = length-take-le k patches within in
    let less : at.0 < k = let inside = at.1 in omega (arith, long) in
    let is : p ≡ get_or patches at.0 p = sym at.2 ∙ get_or-take k patches at.0 p less in
    (at.0, less, slice_get_read patches (length patches) at.0 p refl (omega (arith, less)) is)

-- if those below have a join, the first that clashes is reported
pub reported_pair : (patches : List Document) (first second : ℕ) (places : List Path) (j : Document) → second < length patches → IsJoin (take second patches) j → IsClashBelow patches first second places → IsReportedPair patches first second places
reported_pair patches first second places j within joined clash = record {
  clash = clash;
  least_second = λ k q below at_k i p less at_i. compatible_from_join (take second patches) j joined p q (contains_below patches second i p (omega arith) (omega arith) at_i) (contains_below patches second k q below (omega arith) at_k);
}

-- a patch that is compatible with those below is so with their join
pub free_of_join : (patches : List Document) (k : ℕ) (j p : Document) → k < length patches → slice_get patches k ≡ Some p → IsJoin (take k patches) j → IsFreeBelow patches k → Compatible p j
free_of_join patches k j p within at joined free = compatible_with_join (take k patches) j p joined (λ q there.
    let found = below_contains patches k q (omega arith) there in
    compatible-sym q p (free p at found.0 q found.1 found.2))

pub joined_more : (patches : List Document) (k : ℕ) (p j : Document) → k < length patches → slice_get patches k ≡ Some p → IsDocument p → IsDocument j → IsJoin (take k patches) j → Compatible p j → IsJoin (take (k + 1) patches) (union p j)
joined_more patches k p j within at good other joined free =
    let more : take (k + 1) patches ≡ take k patches ++ p ∷ [] = take_more patches k p within ∙ ap (λ d. take k patches ++ d ∷ []) (get_or_from_slice_get patches k p p at) in
    subst (λ ps. IsJoin ps (union p j)) (sym more) (union_grows_join (take k patches) p j good other joined free)
