use Rattle.std.proofs.Common.{◌<◌, ◌≡◌, ◌∷◌, ◌+◌, ◌↔◌, [], inl, IsTrue, length, map, MatchOption, nat_lt, sym, ap, ◌∙◌, arith, subst}
use Rattle.std.proofs.lemmas.List.{map-append}
use Rattle.mp_tree.proofs.Facts.{IsDocument-document}
use Rattle.mp_patch.specs.Work.{no_limit}
use Rattle.mp_merge.specs.Within.{places_weight}
use Rattle.mp_replica.specs.PatchLog.{pair_base, seen, stored_in}
use Rattle.mp_replica.specs.Private.Pairs.{AddsPair}
use Rattle.mp_replica.proofs.Bounded.{counts, left_if_within}
use Rattle.mp_replica.proofs.Listing.{adds_nothing, adds_places, below_unless}
use Rattle.mp_replica.proofs.first_pairs.list_pair.Goals as goal

pub returns-in_default-checked_sub : goal.returns-in_default-checked_sub
returns-in_default-checked_sub c =
    inl (adds_nothing c.in-Some.ensures c.requires.order c.merge_laws.ensures (IsDocument-document c.in-Some.one.now) (map seen c.args.found.now.pairs.items) c.args.left (below_unless c.args.left c.in_default-checked_sub.ensures))

pub returns : goal.returns
returns c =
    let was = c.args.found.now.pairs.items in
    let budget = c.in-Some-checked_sub.budget in
    let places = c.in_ok-places.field-0.places.items in
    let total = c.in_ok-places.field-0.total in
    let rest = c.unwrap_or-rest.result in
    let found = c.in_ok-places.ensures in
    let sub : budget + pair_base ≡ c.args.left = let is = c.in-Some-checked_sub.ensures in omega (arith, is) in
    let less : budget < no_limit = omega (arith, sub) in
    let long : c.len.result ≡ length places = omega (arith, c.len.ensures, c.in_ok-places.field-0.places.ok.0) in
    let says : IsTrue (nat_lt c.len.result total) ↔ (length places < total) = subst (λ n. IsTrue (nat_lt n total) ↔ (length places < total)) (sym long) (counts (length places) total) in
    let weighed = subst (λ l. MatchOption c.left_of.result (budget < places_weight l) (λ r. r + places_weight l ≡ budget)) c.as_slice.ensures.value c.left_of.ensures in
    let spent : rest + places_weight places ≡ budget =
    subst (λ n. n + places_weight places ≡ budget) (sym c.unwrap_or-rest.ensures) (left_if_within c.left_of.result budget (places_weight places) (found.first.within (λ none. omega (arith, less, none))) weighed) in
    let adds = adds_places c.in-Some.ensures c.requires.order (map seen was) c.args.left budget rest places total (nat_lt c.len.result total) sub less spent says found in
    inl (subst (λ l. AddsPair (stored_in c.args.patches.now.entries) c.args.first c.args.second (map seen was) l c.args.left rest (nat_lt c.len.result total)) (sym (ap (map seen) c.in_ok-push.ensures.items ∙ map-append seen was (_ ∷ []))) adds)
