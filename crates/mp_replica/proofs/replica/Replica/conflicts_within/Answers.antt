use Rattle.std.proofs.Common.{option_map, subst}
use Rattle.std.proofs.lemmas.Result.{IfOk-weaker}
use Rattle.mp_tree.specs.View.{document}
use Rattle.mp_replica.specs.Private.Steps.{FirstClashesWithJoin}
use Rattle.mp_replica.proofs.Following.{first_conflicts_found}
use Rattle.mp_replica.proofs.Growing.{none_if_not}
use Rattle.mp_replica.proofs.replica.Replica.conflicts_within.Goals as goal

pub returns-clause-places : goal.returns-clause-places
returns-clause-places c =
    let p = document c.args.patch.now in
    let settled = none_if_not c.args.self.now.pending (λ some. let never = c.if-is_pending.ensures.1 some in cc) in
    IfOk-weaker c.conflicts_within.result _ _ (λ found are start received follows. first_conflicts_found c.merge_laws.ensures c.args.limit start received c.args.self.now p found.places.items found.total settled
    (subst (λ r. FirstClashesWithJoin c.args.limit (option_map document r.joined) p found.places.items found.total) c.self.view_is are) follows) c.conflicts_within.ensures
