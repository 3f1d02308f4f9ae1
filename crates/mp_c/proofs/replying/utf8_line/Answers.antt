use Rattle.std.proofs.Common.{◌<◌, ◌^◌, arith, rules}
use Rattle.mp_pointer.proofs.Facts.{numeral-decimal}
use Rattle.mp_c.proofs.replying.utf8_line.Goals as goal

pub returns : goal.returns
returns c =
    let small : c.args.offset < 2 ^ 64 = omega arith in
    rw (numeral-decimal c.args.offset small) (search rules)
