use Rattle.std.proofs.Common.{refl}
use Rattle.mp_cli.proofs.counted.Counted.calls.Goals as goal

pub returns : goal.returns
returns g c = refl
