use Rattle.mp_tree.proofs.Readings.Readable.{reads_readable, reads_readables}
use Rattle.mp_tree.proofs.laws.readings_are_documents.Goals as goal

pub returns : goal.returns
returns c = record { document = reads_readable; elements = reads_readables }
