use Rattle.std.proofs.Common.{ap, arith, ◌≡◌, ◌+◌}
use Rattle.mp_pointer.specs.Weight.{place_weight}
use Rattle.mp_merge.specs.Within.{places_weight}
use Rattle.mp_replica.proofs.Bounded.{next_within, weight_passed}
use Rattle.mp_replica.proofs.Slices.{passed_all}
use Rattle.mp_replica.proofs.first_places.left_of.Goals as goal

pub returns-in_err-left : goal.returns-in_err-left
returns-in_err-left c =
    let before = c.loop-place.invariant in
    let over = c.in_err-left.ensures in
    let here = c.place-item.result in
    rw c.from_residual.ensures (omega (arith, before, over, ap place_weight c.place-item.is, next_within c.args.places.now c.loop-place.place-index here c.loop-place-test.true))

pub loop-place-preserved : goal.loop-place-preserved
loop-place-preserved c =
    let before = c.loop-place.invariant in
    let rest = c.in_ok-left.ensures in
    let here = c.place-item.result in
    omega (arith, before, rest, ap place_weight c.place-item.is, weight_passed c.args.places.now c.loop-place.place-index here c.loop-place-test.true)

pub returns : goal.returns
returns c = passed_all (λ l. c.loop-place.left + places_weight l ≡ c.args.budget) c.args.places.now c.loop-place.place-index c.loop-place-test.false c.loop-place.invariant
