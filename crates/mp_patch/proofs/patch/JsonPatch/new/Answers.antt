use Rattle.std.proofs.Common.{rules}
use Rattle.mp_patch.proofs.patch.JsonPatch.new.Goals as goal

pub returns : goal.returns
returns c = search rules
