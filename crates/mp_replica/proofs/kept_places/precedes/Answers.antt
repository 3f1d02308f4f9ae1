use Rattle.std.proofs.Common.{refl, sym, ◌∙◌, true≢false, arith}
use Rattle.std.proofs.lemmas.List.{drop_all}
use Rattle.mp_replica.proofs.KeptPlaces.{ended_here, ended_there, higher_here, lower_here, none_here, same_here}
use Rattle.mp_replica.proofs.kept_places.precedes.Goals as goal

pub returns-in_default : goal.returns-in_default
returns-in_default c = (
  λ never. absurd (true≢false (sym never)),
  λ before. absurd (ended_there c.args.place.now c.args.next.now c.loop-number.number c.loop-number.invariant (sym c.in_default.ensures') before),
)

pub returns-in_default-2 : goal.returns-in_default-2
returns-in_default-2 c = (
  λ never. absurd (true≢false (sym never)),
  λ before. absurd (none_here c.args.place.now c.args.next.now c.loop-number.number c.loop-number.invariant (sym c.in_default.ensures) before),
)

pub returns-in-Less : goal.returns-in-Less
returns-in-Less c = (
  λ _. lower_here c.args.place.now c.args.next.now c.loop-number.number c.loop-number.invariant c.in-Some-Some.name.now c.in-Some-Some.other.now (sym c.in-Some-Some.ensures) (sym c.in-Some-Some.ensures') (sym c.cmp.ensures ∙ c.in-Less.is),
  λ _. refl,
)

pub returns-in-Greater : goal.returns-in-Greater
returns-in-Greater c = (
  λ never. absurd (true≢false (sym never)),
  λ before. absurd (higher_here c.args.place.now c.args.next.now c.loop-number.number c.loop-number.invariant c.in-Some-Some.name.now c.in-Some-Some.other.now (sym c.in-Some-Some.ensures) (sym c.in-Some-Some.ensures') (sym c.cmp.ensures ∙ c.in-Greater.is) before),
)

pub loop-number-preserved : goal.loop-number-preserved
loop-number-preserved c =
    same_here c.args.place.now c.args.next.now c.loop-number.number c.loop-number.invariant c.in-Some-Some.name.now c.in-Some-Some.other.now (sym c.in-Some-Some.ensures) (sym c.in-Some-Some.ensures') (sym c.cmp.ensures ∙ c.in-Equal.is)

pub returns : goal.returns
returns c = (
  λ never. absurd (true≢false (sym never)),
  λ before. absurd (ended_here c.args.place.now c.args.next.now c.loop-number.number c.loop-number.invariant (drop_all c.loop-number.number c.args.place.now (let past = c.loop-number-test.false in omega (arith, past, c.len-number-end.ensures))) before),
)
