use Rattle.std.proofs.Common.{rules}
use Rattle.mp_cli.proofs.counted.Counted.write.Goals as goal

pub returns-in-Ok-clause-stalled : goal.returns-in-Ok-clause-stalled
returns-in-Ok-clause-stalled g c = search rules
