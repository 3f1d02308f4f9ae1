use Rattle.mp_cli.proofs.Printed as printed
use Rattle.mp_cli.proofs.laws.replicas_print_the_same.Goals as goal

pub returns-clause-replay : goal.returns-clause-replay
returns-clause-replay c = let below = c.laws_below.ensures in printed.replicas_print_the_same below.texts below.merges

pub returns-clause-join : goal.returns-clause-join
returns-clause-join c = let below = c.laws_below.ensures in printed.joins_print_the_same below.texts below.merges
