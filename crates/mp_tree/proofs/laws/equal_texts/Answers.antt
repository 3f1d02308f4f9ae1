use Rattle.mp_tree.proofs.Texts.RoundTrip.{same-text}
use Rattle.mp_tree.proofs.laws.equal_texts.Goals as goal

pub returns : goal.returns
returns c = same-text
