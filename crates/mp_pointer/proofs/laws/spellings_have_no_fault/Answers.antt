use Rattle.mp_pointer.proofs.Spellings.ReadBack.{spellings_have_no_fault}
use Rattle.mp_pointer.proofs.laws.spellings_have_no_fault.Goals as goal

pub returns : goal.returns
returns c = spellings_have_no_fault
