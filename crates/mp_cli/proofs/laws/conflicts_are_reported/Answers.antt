use Rattle.mp_cli.proofs.Printed as printed
use Rattle.mp_cli.proofs.laws.conflicts_are_reported.Goals as goal

pub returns-clause-replay : goal.returns-clause-replay
returns-clause-replay c = let below = c.laws_below.ensures in printed.conflicts_are_reported below.texts below.merges

pub returns-clause-join : goal.returns-clause-join
returns-clause-join c = let below = c.laws_below.ensures in printed.join_reports_clashes below.texts below.merges
