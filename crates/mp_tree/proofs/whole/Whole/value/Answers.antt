use Rattle.std.proofs.Common.{rules}
use Rattle.std.proofs.lemmas.Int.{to_z-of_z}
use mir.Syntax.{w128}
use Rattle.mp_tree.proofs.whole.Whole.value.Goals as goal

pub returns : goal.returns
returns c = record { number = to_z-of_z w128 c.args.self.now.value (search rules) }
