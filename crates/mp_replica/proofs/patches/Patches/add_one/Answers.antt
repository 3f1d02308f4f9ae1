use Rattle.std.proofs.Common.{IfSome, ◌++◌, ◌∷◌, [], ◌∙◌, ap, option_map, rules, subst, sym}
use Rattle.mp_tree.specs.View.{document}
use Rattle.mp_replica.specs.Held.{HoldsClashesWith, held_places}
use Rattle.mp_replica.specs.Private.Steps.{HoldsClashesWithJoin}
use Rattle.mp_replica.specs.Taking.{HasTaken}
use Rattle.mp_replica.proofs.Taking.{takes_conflict, takes_on}
use Rattle.mp_replica.proofs.patches.Patches.add_one.Goals as goal

pub returns-in-Some : goal.returns-in-Some
returns-in-Some c =
    let p = document c.args.patch in
    let held = held_places c.first_conflicts-places.result in
    let is = c.of-in-Some.view_is ∙ c.of.ensures in
    let found = subst (λ d. HoldsClashesWithJoin (option_map document c.offer.new.self.joined) (document d) held) c.in-Some.ensures.0 c.first_conflicts-places.ensures in
    let here = subst (λ j. HoldsClashesWithJoin (option_map document j.joined) p held) c.in-Some.ensures.1 found in
    let both = takes_conflict c.merge_laws.ensures c.args.self.now c.args.patch held c.requires.places c.requires.settled (subst (λ r. HoldsClashesWithJoin (option_map document r.joined) p held) c.self.view_is here) in
    record {
      taken = λ taken has. (subst (λ s. HasTaken s (taken ++ p ∷ [])) (sym is) (both taken has).0, λ none. let never = sym (ap (λ r. r.places) is) ∙ none in cc);
      seen = λ taken has. subst (λ s. IfSome s.places (HoldsClashesWith taken p)) (sym is) (both taken has).1;
      conflict = search rules;
      received = search rules;
    }

pub returns-then-settle-clause-taken : goal.returns-then-settle-clause-taken
returns-then-settle-clause-taken c =
    let none = ap (λ r. r.places) c.self.view_is ∙ c.requires.places in
    let settled = ap (λ r. r.pending) c.self.view_is ∙ c.requires.settled in
    let took = c.in_default.ensures in
    rw (← c.self.view_is) (λ taken has. (c.settle.ensures.taken _ (takes_on c.merge_laws.ensures taken _ _ c.args.patch none settled none took.fits took.joins has), c.settle.ensures.places ∙ none, c.if-settle.ensures.settled.0 (search rules)))

pub returns-else-settle-clause-taken : goal.returns-else-settle-clause-taken
returns-else-settle-clause-taken c =
    let none = ap (λ r. r.places) c.self.view_is ∙ c.requires.places in
    let settled = ap (λ r. r.pending) c.self.view_is ∙ c.requires.settled in
    let took = c.in_default.ensures in
    rw (← c.self.view_is) (λ taken has. (c.settle.ensures.taken _ (takes_on c.merge_laws.ensures taken _ _ c.args.patch none settled none took.fits took.joins has), c.settle.ensures.places ∙ none, λ done. let never = c.if-settle.ensures.settled.1 done in cc))
