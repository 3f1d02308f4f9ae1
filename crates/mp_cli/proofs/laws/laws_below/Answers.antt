use Rattle.mp_cli.proofs.laws.laws_below.Goals as goal

pub returns : goal.returns
returns c =
    let texts = c.laws_of_texts.ensures in
    let merges = c.laws_of_merges.ensures in
    record { texts = texts.texts; pointers = texts.pointers; patches = texts.patches; merges = merges.merges; rewritings = merges.rewritings }
