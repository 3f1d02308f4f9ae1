use Rattle.std.proofs.Common.{ap, sym}
use Rattle.mp_patch.specs.Texts.{form_text}
use Rattle.mp_patch.proofs.fault.FormCause.as_str.Goals as goal

pub returns-in-NoFrom : goal.returns-in-NoFrom
returns-in-NoFrom c = ap form_text (sym c.in-NoFrom.is)
