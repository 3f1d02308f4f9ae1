use Rattle.mp_patch.proofs.Shapes.Readable as readable
use Rattle.mp_patch.proofs.laws.shapes_are_readable.Goals as goal

pub returns : goal.returns
returns c = readable.shapes_are_readable c.spellings_are_texts.ensures
