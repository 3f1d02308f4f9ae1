use Rattle.std.proofs.Common.{IfSome, option_map, ◌∙◌, ap, refl, rules, sym, subst}
use Rattle.mp_tree.specs.View.{document}
use Rattle.mp_merge.specs.Clash.{Compatible}
use Rattle.mp_replica.specs.Following.{Follows}
use Rattle.mp_replica.proofs.Following.{clashes_if_unfit, follows_on}
use Rattle.mp_replica.proofs.replica.Replica.receive.Goals as goal

pub returns-in-Some : goal.returns-in-Some
returns-in-Some c =
    let same = ap (λ j. record { shown = c.self.inside.shown; joined = j.joined; pending = j.pending }) c.in-Some.ensures.1 ∙ c.self.view_is in
    let settled = c.if-not-settle.ensures.settled.0 (search rules) in
    let unfit = subst (λ r. ¬ IfSome (option_map document r.joined) (Compatible (document c.args.patch))) c.self.view_is c.in-Some.ensures.2 in
    record {
      follows = λ start received follows.
          let still = c.settle.ensures.follows start received follows in (
            ap document c.in-Some.ensures.0,
            subst (Follows start received) (sym same) still,
            ap (λ r. r.pending) same ∙ settled,
            clashes_if_unfit c.merge_laws.ensures start received c.settle.new.self c.args.patch settled unfit still,
          );
      refused = search rules;
      unchanged = λ none handed. same ∙ c.settle.ensures.unchanged none;
    }

pub returns-then-settle-clause-follows : goal.returns-then-settle-clause-follows
returns-then-settle-clause-follows c start received follows =
    let before = subst (Follows start received) (sym c.self.view_is) (c.settle.ensures.follows start received follows) in
    let settled = ap (λ r. r.pending) c.self.view_is ∙ c.if-not-settle.ensures.settled.0 (search rules) in
    let took = c.in_default.ensures in
    (c.settle-2.ensures.follows start _ (follows_on c.merge_laws.ensures start received _ _ c.args.patch settled took.fits refl took.joins took.pending before), c.if-settle.ensures.settled.0 (search rules))

pub returns-else-settle-clause-follows : goal.returns-else-settle-clause-follows
returns-else-settle-clause-follows c start received follows =
    let before = subst (Follows start received) (sym c.self.view_is) (c.settle.ensures.follows start received follows) in
    let settled = ap (λ r. r.pending) c.self.view_is ∙ c.if-not-settle.ensures.settled.0 (search rules) in
    let took = c.in_default.ensures in
    (c.settle-2.ensures.follows start _ (follows_on c.merge_laws.ensures start received _ _ c.args.patch settled took.fits refl took.joins took.pending before), λ none. let never = c.if-settle.ensures.settled.1 none in cc)
