use Rattle.std.proofs.Common.{◌∙◌, rules}
use Rattle.std.proofs.lemmas.Int.{to_z-of_z}
use mir.Syntax.{w128}
use Rattle.mp_tree.proofs.whole.Whole.from_u64.Goals as goal

pub returns : goal.returns
returns c = record { number = to_z-of_z w128 c.from.result (search rules) ∙ c.from.ensures }
