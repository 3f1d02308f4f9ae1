-- The first pair of patches that were chosen and conflict.
use Rattle.std.proofs.Common.{◌≡◌, List, ◌∷◌, Option, None, Some, MatchOption, refl, sym, ap, ◌∙◌, subst}
use Rattle.std.proofs.lemmas.List.Elements.{Contains-append_right}
use Rattle.std.specs.BTreeSet.{BTreeSet}
use Rattle.std.specs.List.{Contains}
use Rattle.std.specs.List.Sorted.{IsStrictlySortedBy}
use Rattle.std.specs.Ordering.{ordering_reverse}
use Rattle.std.specs.declared.cmp.Ordering.{Ordering}
use Rattle.std.specs.declared.cmp.Ordering.TheVariants.{Less, Equal, Greater}
use Rattle.mp_tree.specs.Document.{Document}
use Rattle.mp_tree.proofs.Facts.{Contains-head}
use Rattle.mp_merge.specs.Clash.{Compatible}
use Rattle.mp_replica.specs.PatchLog.{DoClash, IsFirstPair, Stored, identity_cmp, pair_cmp}
use Rattle.mp_replica.specs.Private.Identities.{HasThese}
use Rattle.mp_replica.specs.Private.Pairs.{IsFirstAmong, KeptPairs, KnowsPairs, NoneAmong}
use Rattle.mp_replica.specs.Private.StoredPatches.{AreApart}
use Rattle.mp_replica.specs.declared.message.Identity.{Identity}
use Rattle.mp_replica.proofs.Conflicting.{one_patch}
use Rattle.mp_replica.proofs.Growing.{itself, symmetric}
use Rattle.mp_replica.proofs.Identities.{exact_identities, identities_total}
use Rattle.mp_replica.proofs.PairsFound.{before_is_passed}

module _ (stored : Stored) (set : KeptPairs) (chosen : List Identity) (wanted : BTreeSet Identity) (sorted : IsStrictlySortedBy pair_cmp set.keys) (knows : KnowsPairs stored set)
    (has : HasThese wanted chosen) where
  first_of_chosen : (pair : Identity × Identity) → IsFirstAmong stored set.keys wanted pair → IsFirstPair stored chosen pair.0 pair.1
  first_of_chosen pair first =
      let parts = first.parts in
      record {
        chosen_first = (has pair.0).0 first.chosen_first;
        chosen_second = (has pair.1).0 first.chosen_second;
        in_order = knows.ordered pair.0 pair.1 (subst (λ ks. Contains ks pair) (sym parts) (Contains-append_right first.before (pair ∷ first.rest) pair (Contains-head pair first.rest)));
        clash = first.clash;
        least = λ i j here there less clash earlier.
            first.none_before i j
            (before_is_passed first.before first.rest pair (subst (IsStrictlySortedBy pair_cmp) parts sorted) (i, j) (subst (λ ks. Contains ks (i, j)) parts (knows.found i j less clash)) earlier)
            ((has i).1 here) ((has j).1 there) clash;
      }

  -- if there are none, no two that were chosen clash
  none_of_chosen : NoneAmong stored set.keys wanted → AreApart stored chosen
  none_of_chosen none i j p q here there at_i at_j = by (identity_cmp i j) refl
    where
      less_apart : (i j : Identity) (p q : Document) → Contains chosen i → Contains chosen j → stored i ≡ Some p → stored j ≡ Some q → identity_cmp i j ≡ Less → Compatible p q
      less_apart i j p q here there at_i at_j less w differ =
          let clash : DoClash stored i j = record { one = p; other = q; at_first = at_i; at_second = at_j; clash = λ agree. agree w differ } in
          none i j (knows.found i j less clash) ((has i).1 here) ((has j).1 there) clash

      by : (o : Ordering) → identity_cmp i j ≡ o → Compatible p q
      by Less is = less_apart i j p q here there at_i at_j is
      by Equal is = subst (Compatible p) (one_patch stored i j p q (exact_identities i j is) at_i at_j) (itself p)
      by Greater is = symmetric q p (less_apart j i q p there here at_j at_i (identities_total.antisymm j i ∙ ap ordering_reverse is))

  pub found_of_chosen : (found : Option (Identity × Identity)) → MatchOption found (NoneAmong stored set.keys wanted) (IsFirstAmong stored set.keys wanted)
      → MatchOption found (AreApart stored chosen) (λ pair. IsFirstPair stored chosen pair.0 pair.1)
  found_of_chosen None none = none_of_chosen none
  found_of_chosen (Some pair) first = first_of_chosen pair first
