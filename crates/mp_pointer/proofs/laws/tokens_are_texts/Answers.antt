use Rattle.mp_pointer.proofs.Spellings.Texts.{tokens_are_texts}
use Rattle.mp_pointer.proofs.laws.tokens_are_texts.Goals as goal

pub returns : goal.returns
returns c = tokens_are_texts
