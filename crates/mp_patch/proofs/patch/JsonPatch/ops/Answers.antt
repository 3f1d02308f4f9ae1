use Rattle.std.proofs.Common.{◌∙◌}
use Rattle.mp_patch.proofs.patch.JsonPatch.ops.Goals as goal

pub returns : goal.returns
returns c = c.as_slice.ensures.value ∙ c.self.view_is
