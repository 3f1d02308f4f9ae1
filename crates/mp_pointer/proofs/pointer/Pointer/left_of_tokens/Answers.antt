use Rattle.std.proofs.Common.{◌≡◌, ◌<◌, ◌+◌, ◌∷◌, drop, length, Some, sym, ap, ◌∙◌, arith, length-append}
use Rattle.std.specs.List.{slice_get}
use Rattle.std.specs.Option.{option_copied}
use Rattle.mp_pointer.specs.Spelling.{escape, spell}
use Rattle.mp_pointer.proofs.Tokens.Lists.{drop_token}
use Rattle.mp_pointer.proofs.pointer.Pointer.left_of_tokens.Goals as goal

pub returns-in_err-left : goal.returns-in_err-left
returns-in_err-left c =
    let t = c.args.self.now in
    let i = c.loop-number.number in
    let token = c.unwrap.result.now in
    let here : slice_get t i ≡ Some token = sym c.token.ensures ∙ ap option_copied c.unwrap.ensures in
    let next : length (spell (drop i t)) ≡ 1 + (length (escape token) + length (spell (drop (i + 1) t))) = omega (arith, ap (λ u. length (spell u)) (drop_token t i token here), length-append (escape token) (spell (drop (i + 1) t))) in
    let over : c.args.budget < length (spell t) = omega (arith, c.loop-number.invariant, next, c.in_err-left.ensures) in
    rw c.from_residual.ensures over

pub loop-number-preserved : goal.loop-number-preserved
loop-number-preserved c =
    let t = c.args.self.now in
    let i = c.loop-number.number in
    let token = c.unwrap.result.now in
    let here : slice_get t i ≡ Some token = sym c.token.ensures ∙ ap option_copied c.unwrap.ensures in
    let next : length (spell (drop i t)) ≡ 1 + (length (escape token) + length (spell (drop (i + 1) t))) = omega (arith, ap (λ u. length (spell u)) (drop_token t i token here), length-append (escape token) (spell (drop (i + 1) t))) in
    omega (arith, c.loop-number.invariant, next, c.in_ok-left.ensures)
