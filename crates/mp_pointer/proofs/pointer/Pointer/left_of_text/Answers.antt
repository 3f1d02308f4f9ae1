use Rattle.std.proofs.Common.{◌≡◌, ◌<◌, ◌+◌, drop, length, Some, sym, ap, ◌∙◌, arith}
use Rattle.std.specs.List.{slice_get}
use Rattle.std.specs.Option.{option_copied}
use Rattle.json.specs.Print.{escape as in_string, quoted}
use Rattle.mp_pointer.specs.Spelling.{spell}
use Rattle.mp_pointer.proofs.Spellings.Lengths.{in_string-spell, quoted-length}
use Rattle.mp_pointer.proofs.Tokens.Lists.{drop_token}
use Rattle.mp_pointer.proofs.pointer.Pointer.left_of_text.Goals as goal

pub returns-in_err-left-2 : goal.returns-in_err-left-2
returns-in_err-left-2 c =
    let t = c.args.self.now in
    let i = c.loop-number.number in
    let token = c.unwrap.result.now in
    let here : slice_get t i ≡ Some token = sym c.token.ensures ∙ ap option_copied c.unwrap.ensures in
    let next = ap (λ u. length (in_string (spell u))) (drop_token t i token here) ∙ in_string-spell token (drop (i + 1) t) in
    let over : c.args.budget < length (quoted (spell t)) = omega (arith, c.loop-number.invariant, next, c.in_err-left-2.ensures, quoted-length (spell t)) in
    rw c.from_residual-in_err-left-2.ensures (record { left = over })

pub loop-number-preserved : goal.loop-number-preserved
loop-number-preserved c =
    let t = c.args.self.now in
    let i = c.loop-number.number in
    let token = c.unwrap.result.now in
    let here : slice_get t i ≡ Some token = sym c.token.ensures ∙ ap option_copied c.unwrap.ensures in
    let next = ap (λ u. length (in_string (spell u))) (drop_token t i token here) ∙ in_string-spell token (drop (i + 1) t) in
    omega (arith, c.loop-number.invariant, next, c.in_ok-left-2.ensures)
