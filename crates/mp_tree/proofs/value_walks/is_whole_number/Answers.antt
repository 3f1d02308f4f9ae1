use Rattle.mp_tree.proofs.Valued.Numbers.{whole_if_some}
use Rattle.mp_tree.proofs.value_walks.is_whole_number.Goals as goal

pub returns : goal.returns
returns c = whole_if_some c.whole_of.result c.is_some.result _ c.is_some.ensures c.whole_of.ensures
