use Rattle.mp_texts.proofs.OneAnswer as answers
use Rattle.mp_texts.proofs.laws.one_answer.Goals as goal

pub returns-clause-one : goal.returns-clause-one
returns-clause-one c = answers.one_answer c.answer_laws.ensures

pub returns-clause-faults : goal.returns-clause-faults
returns-clause-faults c = answers.faults_show_the_answer
