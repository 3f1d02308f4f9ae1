use Rattle.mp_merge.proofs.Rewritings.SomeRewriting.{rewriting_exists}
use Rattle.mp_merge.proofs.laws.rewriting_exists.Goals as goal

pub returns : goal.returns
returns c = rewriting_exists
