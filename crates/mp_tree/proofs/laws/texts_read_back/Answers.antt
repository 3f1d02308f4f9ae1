use Rattle.mp_tree.proofs.Texts.RoundTrip.{read-text, read-utf8}
use Rattle.mp_tree.proofs.laws.texts_read_back.Goals as goal

pub returns : goal.returns
returns c = record { readable = read-text; utf8 = read-utf8 }
