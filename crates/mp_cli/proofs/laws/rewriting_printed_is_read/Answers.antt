use Rattle.mp_cli.proofs.Printed as printed
use Rattle.mp_cli.proofs.laws.rewriting_printed_is_read.Goals as goal

pub returns : goal.returns
returns c = let below = c.laws_below.ensures in printed.rewriting_printed_is_read below.texts below.merges below.patches below.rewritings
