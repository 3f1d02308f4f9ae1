use Rattle.mp_pointer.proofs.Spellings.ReadBack.{has_one_fault}
use Rattle.mp_pointer.proofs.laws.one_fault.Goals as goal

pub returns : goal.returns
returns c = has_one_fault
