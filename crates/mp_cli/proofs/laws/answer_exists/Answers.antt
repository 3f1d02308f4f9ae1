use Rattle.mp_cli.proofs.SomeAnswer as answers
use Rattle.mp_cli.proofs.laws.answer_exists.Goals as goal

pub returns : goal.returns
returns c =
    let below = c.laws_below.ensures in
    answers.answer_exists below.pointers below.patches below.merges below.rewritings below.texts.readable below.texts.faults
