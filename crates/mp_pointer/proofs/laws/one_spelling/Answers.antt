use Rattle.mp_pointer.proofs.Spellings.ReadBack.{has_one_spelling}
use Rattle.mp_pointer.proofs.laws.one_spelling.Goals as goal

pub returns : goal.returns
returns c = has_one_spelling
