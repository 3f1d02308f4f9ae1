use Rattle.mp_patch.proofs.Runs.Laws.{has_one_refusal}
use Rattle.mp_patch.proofs.laws.one_refusal.Goals as goal

pub returns : goal.returns
returns c = has_one_refusal
