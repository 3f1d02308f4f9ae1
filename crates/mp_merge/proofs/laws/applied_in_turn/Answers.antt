use Rattle.mp_merge.proofs.Application.InTurn.{applied_in_turn}
use Rattle.mp_merge.proofs.laws.applied_in_turn.Goals as goal

pub returns : goal.returns
returns c = applied_in_turn
