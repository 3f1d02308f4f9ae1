use Rattle.std.proofs.Common.{codes, refl}
use Rattle.mp_tree.proofs.Facts.{looked_up-by}
use Rattle.mp_patch.proofs.reading.value_of.Goals as goal

pub returns-in_default : goal.returns-in_default
returns-in_default g c = looked_up-by g.T.Node.means c.requires.documents {k = codes "value"} {n = codes "value"} c.args.entries.entries refl c.in_default.ensures.value

pub returns : goal.returns
returns g c = looked_up-by g.T.Node.means c.requires.documents {k = codes "value"} {n = codes "value"} c.args.entries.entries refl c.in-Some.ensures.value
