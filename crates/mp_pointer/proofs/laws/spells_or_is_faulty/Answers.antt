use Rattle.mp_pointer.proofs.Spellings.ReadBack.{spells_or_is_faulty}
use Rattle.mp_pointer.proofs.laws.spells_or_is_faulty.Goals as goal

pub returns : goal.returns
returns c = spells_or_is_faulty
