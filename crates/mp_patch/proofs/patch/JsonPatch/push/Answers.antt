use Rattle.std.proofs.Common.{rules}
use Rattle.mp_patch.proofs.patch.JsonPatch.push.Goals as goal

pub returns-clause-ok : goal.returns-clause-ok
returns-clause-ok c = search rules
