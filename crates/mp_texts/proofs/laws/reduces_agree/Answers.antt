use Rattle.mp_texts.proofs.Reduced as reduced
use Rattle.mp_texts.proofs.laws.reduces_agree.Goals as goal

pub returns-clause-agree : goal.returns-clause-agree
returns-clause-agree c = reduced.reduces_agree c.join_laws.ensures

pub returns-clause-all : goal.returns-clause-all
returns-clause-all c = reduced.reduces_give_the_join

pub returns-clause-exists : goal.returns-clause-exists
returns-clause-exists c = reduced.reduces_exist c.join_laws.ensures

pub returns-clause-decide : goal.returns-clause-decide
returns-clause-decide c = reduced.reduces_decide c.join_laws.ensures
