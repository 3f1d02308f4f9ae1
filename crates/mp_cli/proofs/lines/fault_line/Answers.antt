use Rattle.std.proofs.Common.{ap, sym}
use Rattle.mp_cli.specs.Lines.{status_of}
use Rattle.mp_cli.proofs.lines.fault_line.Goals as goal

pub returns-in-TooLong-clause-status : goal.returns-in-TooLong-clause-status
returns-in-TooLong-clause-status c = ap status_of (sym c.in-TooLong.is)
