use Rattle.mp_merge.proofs.Readable.{join_is_readable}
use Rattle.mp_merge.proofs.laws.join_is_readable.Goals as goal

pub returns : goal.returns
returns c = join_is_readable
