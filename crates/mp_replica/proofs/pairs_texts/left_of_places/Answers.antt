use Rattle.std.proofs.Common.{◌≡◌, ◌+◌, length, ap, arith}
use Rattle.mp_tree.specs.Text.{text as compact}
use Rattle.mp_texts.specs.Answers.{place_of}
use Rattle.mp_replica.proofs.PairTexts.{listed_of_some, next_spelled, places_spelled, spelled_passed}
use Rattle.mp_replica.proofs.Slices.{passed_all}
use Rattle.mp_replica.proofs.pairs_texts.left_of_places.Goals as goal

pub returns-in_err-checked_sub : goal.returns-in_err-checked_sub
returns-in_err-checked_sub c =
    let places = c.args.places.now in
    let here = c.place-item.result in
    let over = c.in_err-checked_sub.ensures in
    rw c.from_residual-in_err-checked_sub.ensures
    (omega (arith, c.loop-place.invariant, over, listed_of_some places (c.is_empty.ensures) c.if-is_empty.false, next_spelled places c.loop-place.place-index here c.loop-place-test.true))

pub returns-in_err-left-2 : goal.returns-in_err-left-2
returns-in_err-left-2 c =
    let places = c.args.places.now in
    let here = c.place-item.result in
    let over = c.in_err-left-2.ensures.left in
    let one = c.in_ok-checked_sub.ensures in
    rw c.from_residual-in_err-left-2.ensures
    (omega (arith, c.loop-place.invariant, over, one, ap (λ w. length (compact (place_of w))) c.place-item.is, listed_of_some places (c.is_empty.ensures) c.if-is_empty.false, next_spelled places c.loop-place.place-index here c.loop-place-test.true))

pub loop-place-preserved : goal.loop-place-preserved
loop-place-preserved c =
    let places = c.args.places.now in
    let here = c.place-item.result in
    let rest = c.in_ok-left-2.ensures.left in
    let one = c.in_ok-checked_sub.ensures in
    omega (arith, c.loop-place.invariant, rest, one, ap (λ w. length (compact (place_of w))) c.place-item.is, spelled_passed places c.loop-place.place-index here c.loop-place-test.true)

pub returns : goal.returns
returns c =
    let places = c.args.places.now in
    let all = passed_all (λ l. c.loop-place.left + (1 + places_spelled l) ≡ c.args.budget) places c.loop-place.place-index c.loop-place-test.false c.loop-place.invariant in
    omega (arith, all, listed_of_some places (c.is_empty.ensures) c.if-is_empty.false)
