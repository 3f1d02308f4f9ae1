use Rattle.std.proofs.Common.{ap, sym}
use Rattle.mp_patch.specs.Texts.{cause_text}
use Rattle.mp_patch.proofs.fault.Cause.as_str.Goals as goal

pub returns-in-NoPlace : goal.returns-in-NoPlace
returns-in-NoPlace c = ap cause_text (sym c.in-NoPlace.is)
