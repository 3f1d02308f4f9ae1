use Rattle.mp_texts.proofs.SomeAnswer as answers
use Rattle.mp_texts.proofs.laws.answer_exists.Goals as goal

pub returns : goal.returns
returns c = answers.some_answer c.existence_laws.ensures
