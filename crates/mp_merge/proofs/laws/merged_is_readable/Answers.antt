use Rattle.mp_merge.proofs.Readable.{merged_is_readable}
use Rattle.mp_merge.proofs.laws.merged_is_readable.Goals as goal

pub returns : goal.returns
returns c = merged_is_readable
