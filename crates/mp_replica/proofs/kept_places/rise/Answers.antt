use Rattle.std.proofs.Common.{◌-◌, get_or, sym, ◌∙◌, subst, true≢false, arith}
use Rattle.mp_replica.specs.Private.Places.{Precedes}
use Rattle.mp_replica.proofs.KeptPlaces.{chain_here, chain_on, chain_one}
use Rattle.mp_replica.proofs.kept_places.rise.Goals as goal

pub loop-number-init : goal.loop-number-init
loop-number-init c = chain_one c.args.places.now

pub returns-then-not-precedes : goal.returns-then-not-precedes
returns-then-not-precedes c =
    let places = c.args.places.now in
    let n = c.loop-number.number in
    let here = c.index-places-number.result in
    let next = c.index-places-number-in-loop-number.result in (
      λ never. absurd (true≢false (sym never)),
      λ chain.
          let before = chain_here places here next n (let after = c.loop-number.auto.number in omega (arith, after)) c.loop-number-test.true chain in
          absurd (true≢false (sym (c.precedes.ensures.1 (subst (λ x. Precedes x next) (sym c.index-places-number.is) (subst (Precedes (get_or places (n - 1) here)) (sym c.index-places-number-in-loop-number.is) before))) ∙ c.if-not-precedes.true)),
    )

pub loop-number-preserved : goal.loop-number-preserved
loop-number-preserved c =
    let places = c.args.places.now in
    let n = c.loop-number.number in
    let here = c.index-places-number.result in
    let next = c.index-places-number-in-loop-number.result in
    let before = c.precedes.ensures.0 c.if-not-precedes.false in
    chain_on places here next n (let after = c.loop-number.auto.number in omega (arith, after)) c.loop-number-test.true c.loop-number.invariant
    (subst (λ x. Precedes x (get_or places n next)) c.index-places-number.is (subst (Precedes here) c.index-places-number-in-loop-number.is before))
