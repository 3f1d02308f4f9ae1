use Rattle.std.proofs.Common.{option_map, subst}
use Rattle.mp_tree.specs.View.{document}
use Rattle.mp_replica.specs.Private.Steps.{SameJoins}
use Rattle.mp_replica.proofs.Growing.{documents, grown_stays}
use Rattle.mp_replica.proofs.live_join.LiveJoin.settle.Goals as goal

pub returns-clause-stays : goal.returns-clause-stays
returns-clause-stays c =
    let before = option_map document c.self.inside.joined in
    let now = option_map document c.grow.new.joined in
    let left = option_map document c.grow.result in
    let stays = grown_stays c.merge_laws.ensures before now c.in-Some.patch c.grow.result (documents c.grow.new.joined) c.grow.ensures in
    rw (← c.self.view_is) (subst (λ o. SameJoins before (option_map document o) now left) c.in-Some.ensures.value stays)
