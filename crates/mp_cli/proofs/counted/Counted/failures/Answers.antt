use Rattle.std.proofs.Common.{refl}
use Rattle.mp_cli.proofs.counted.Counted.failures.Goals as goal

pub returns-clause-value : goal.returns-clause-value
returns-clause-value g c = refl
