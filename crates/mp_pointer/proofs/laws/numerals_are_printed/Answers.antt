use Rattle.mp_pointer.proofs.Tokens.Indices.{numeral-decimal}
use Rattle.mp_pointer.proofs.laws.numerals_are_printed.Goals as goal

pub returns : goal.returns
returns c = numeral-decimal
