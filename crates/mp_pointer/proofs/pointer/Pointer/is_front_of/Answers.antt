use Rattle.std.proofs.Common.{◌≡◌, Some, length, take, refl, sym, ap, ◌∙◌, arith, true≢false}
use Rattle.std.specs.List.{slice_get}
use Rattle.std.specs.Option.{option_copied}
use Rattle.mp_pointer.proofs.Tokens.Lists.{take_step, begins_with, no_front_of_other, texts_differ}
use Rattle.mp_pointer.proofs.pointer.Pointer.is_front_of.Goals as goal

pub returns-then-ne : goal.returns-then-ne
returns-then-ne c =
    let t = c.args.self.now in
    let u = c.args.other.now in
    let i = c.loop-number.number in
    let here : slice_get t i ≡ Some c.unwrap.result.now = sym c.token.ensures ∙ ap option_copied c.unwrap.ensures in
    let there : slice_get u i ≡ Some c.unwrap-in-loop-number.result.now = sym c.token-in-loop-number.ensures ∙ ap option_copied c.unwrap-in-loop-number.ensures in
    let differ = (texts_differ c.unwrap.result.now c.unwrap-in-loop-number.result.now c.ne.result c.ne.ensures).1 c.if-ne.true in (
      λ e. absurd (true≢false (sym e)),
      λ p. absurd (no_front_of_other t u i _ _ here there differ p),
    )

pub loop-number-preserved : goal.loop-number-preserved
loop-number-preserved c =
    let t = c.args.self.now in
    let u = c.args.other.now in
    let i = c.loop-number.number in
    let here : slice_get t i ≡ Some c.unwrap.result.now = sym c.token.ensures ∙ ap option_copied c.unwrap.ensures in
    let there : slice_get u i ≡ Some c.unwrap-in-loop-number.result.now = sym c.token-in-loop-number.ensures ∙ ap option_copied c.unwrap-in-loop-number.ensures in
    let same = (texts_differ c.unwrap.result.now c.unwrap-in-loop-number.result.now c.ne.result c.ne.ensures).0 c.if-ne.false in
    take_step t u i c.unwrap.result.now here (there ∙ ap Some (sym same)) c.loop-number.invariant

pub returns : goal.returns
returns c =
    let t = c.args.self.now in
    let u = c.args.other.now in
    let all : c.loop-number.number ≡ length t = omega arith in
    (λ _. begins_with t u (ap (λ n. take n t) (sym all) ∙ c.loop-number.invariant ∙ ap (λ n. take n u) all), λ _. refl)
