use Rattle.mp_cli.proofs.OneAnswer as answers
use Rattle.mp_cli.proofs.laws.one_answer.Goals as goal

pub returns : goal.returns
returns c =
    let below = c.laws_below.ensures in
    answers.one_answer below.pointers below.patches below.merges below.rewritings below.texts.readable
