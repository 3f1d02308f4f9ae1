use Rattle.mp_patch.proofs.Operations.Taken.{operations_are_taken}
use Rattle.mp_patch.proofs.laws.operations_are_taken.Goals as goal

pub returns : goal.returns
returns c = operations_are_taken
