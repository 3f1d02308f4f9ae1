use Rattle.std.proofs.Common.{◌<◌, ◌^◌, arith, rules}
use Rattle.mp_pointer.proofs.Facts.{numeral-decimal}
use Rattle.mp_texts.proofs.lines.with_number.Goals as goal

pub returns : goal.returns
returns c =
    let small : c.args.number < 2 ^ 64 = omega arith in
    rw (numeral-decimal c.args.number small) (search rules)
