use Rattle.std.proofs.Common.{◌<◌, ◌^◌, arith, rules}
use Rattle.mp_pointer.proofs.Facts.{numeral-decimal}
use Rattle.mp_texts.proofs.fault_places.token_of.Goals as goal

pub returns : goal.returns
returns c =
    let small : c.args.index < 2 ^ 64 = omega arith in
    rw (numeral-decimal c.args.index small) (search rules)
