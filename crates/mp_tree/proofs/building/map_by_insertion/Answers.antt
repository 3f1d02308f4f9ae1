use Rattle.mp_tree.proofs.Maps.Building.{insert-last-passed}
use Rattle.mp_tree.proofs.Passed.{Passed-step, Passed-end, over-into_iter}
use Rattle.mp_tree.proofs.building.map_by_insertion.Goals as goal

pub loop-name-preserved : goal.loop-name-preserved
loop-name-preserved g c =
    let l = c.loop-name in
    let pairs = l.invariant.pairs in
    let next = c.in-Some.ensures.steps.0 in
    let last = insert-last-passed l.map.entries _ c.in-Some.name c.in-Some.value pairs next c.requires c.in_ok-insert.ensures.entries in
    record { pairs = Passed-step pairs next last; can_next = tt; is_finite = tt }

pub returns : goal.returns
returns g c =
    let l = c.loop-name in
    Passed-end l.invariant.pairs (over-into_iter l.name-iterator c.in-None.ensures.steps.0)
