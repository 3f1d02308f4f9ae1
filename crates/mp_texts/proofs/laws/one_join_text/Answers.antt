use Rattle.mp_texts.proofs.Joins as joins
use Rattle.mp_texts.proofs.laws.one_join_text.Goals as goal

pub returns-clause-one : goal.returns-clause-one
returns-clause-one c = joins.one_join_text c.join_laws.ensures

pub returns-clause-shared : goal.returns-clause-shared
returns-clause-shared c = joins.join_texts_are_shared
