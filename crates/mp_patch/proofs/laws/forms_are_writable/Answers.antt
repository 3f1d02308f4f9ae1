use Rattle.mp_patch.proofs.Forms.Writable.{forms_are_writable}
use Rattle.mp_patch.proofs.laws.forms_are_writable.Goals as goal

pub returns : goal.returns
returns c = forms_are_writable c.parts_are_readable.ensures c.tokens_are_texts.ensures
