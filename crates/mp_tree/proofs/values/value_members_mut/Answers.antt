use Rattle.std.proofs.Common.{rules}
use Rattle.mp_tree.proofs.values.value_members_mut.Goals as goal

pub returns-in-Object : goal.returns-in-Object
returns-in-Object c = search rules
