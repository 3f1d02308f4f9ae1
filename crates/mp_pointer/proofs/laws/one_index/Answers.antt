use Rattle.mp_pointer.proofs.Tokens.Indices.{same_numeral}
use Rattle.mp_pointer.proofs.laws.one_index.Goals as goal

pub returns : goal.returns
returns c = same_numeral
