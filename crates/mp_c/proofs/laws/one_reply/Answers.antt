use Rattle.mp_c.proofs.OneReply as replies
use Rattle.mp_c.proofs.laws.one_reply.Goals as goal

pub returns-clause-one : goal.returns-clause-one
returns-clause-one c = replies.each_has_one_reply c.laws_of_texts.ensures

pub returns-clause-again : goal.returns-clause-again
returns-clause-again c = replies.each_begins_the_larger c.laws_of_texts.ensures
