use Rattle.std.proofs.Common.{◌∙◌, ap}
use Rattle.std.proofs.lemmas.Result.{on_ok_weaker}
use Rattle.mp_pointer.specs.Spelling.{spell}
use Rattle.mp_pointer.proofs.Spellings.ReadBack.{escape-plain, spell-push}
use Rattle.mp_pointer.proofs.spelling.push_unescaped.Goals as goal

pub returns-then-is_plain : goal.returns-then-is_plain
returns-then-is_plain c =
    let plain = c.is_plain.ensures c.if-is_plain.true in
    let text = c.args.spelled.now in
    on_ok_weaker c.push.result (λ e. ap spell e ∙ spell-push c.args.pointer.now text text (escape-plain text (λ k less. (plain k less).1) (λ k less. (plain k less).0))) c.push.ensures.ok
