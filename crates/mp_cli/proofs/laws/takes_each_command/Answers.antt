use Rattle.mp_cli.proofs.TakenWords.{takes_each_command}
use Rattle.mp_cli.proofs.laws.takes_each_command.Goals as goal

pub returns : goal.returns
returns c = takes_each_command
