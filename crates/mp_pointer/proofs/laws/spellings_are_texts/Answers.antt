use Rattle.mp_pointer.proofs.Parts.Readable.{spellings_are_texts}
use Rattle.mp_pointer.proofs.laws.spellings_are_texts.Goals as goal

pub returns : goal.returns
returns c = spellings_are_texts
