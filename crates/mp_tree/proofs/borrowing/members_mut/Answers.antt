use Rattle.std.proofs.Common.{rules}
use Rattle.mp_tree.proofs.borrowing.members_mut.Goals as goal

pub returns-in-Members : goal.returns-in-Members
returns-in-Members c = search rules
