use Rattle.std.proofs.Common.{◌≡◌, [], ◌∷◌, ◌++◌, length, take, Some, sym, ap, ◌∙◌, arith}
use Rattle.std.specs.List.{slice_get}
use Rattle.std.specs.Option.{option_copied}
use Rattle.mp_pointer.proofs.Tokens.Lists.{take_token, to_end}
use Rattle.mp_pointer.proofs.pointer.Pointer.under.Goals as goal

pub loop-number-preserved : goal.loop-number-preserved
loop-number-preserved c =
    let t = c.args.self in
    let i = c.loop-number.number in
    let token = c.unwrap.result.now in
    let here : slice_get t i ≡ Some token = sym c.token.ensures ∙ ap option_copied c.unwrap.ensures in
    c.in_ok-push-2.ensures.ok ∙ ap (λ xs. xs ++ token ∷ []) c.loop-number.invariant ∙ ap (λ xs. c.args.token.now ∷ xs) (sym (take_token t i token here))

pub returns : goal.returns
returns c =
    let t = c.args.self in
    let all : c.loop-number.number ≡ length t = omega arith in
    c.loop-number.invariant ∙ ap (λ n. c.args.token.now ∷ take n t) all ∙ ap (λ xs. c.args.token.now ∷ xs) (to_end t)
