use Rattle.std.proofs.Common.{ℕ, List, ap}
use Rattle.mp_cli.specs.Lines.{Output}
use Rattle.mp_cli.proofs.lines.ended.Goals as goal

abbrev answered : ℕ → List ℕ → Output
answered status text = record { text = text; status = status }

pub returns : goal.returns
returns c = ap (answered c.args.status) c.in_ok-push_str.ensures.bytes
