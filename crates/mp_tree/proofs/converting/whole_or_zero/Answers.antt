use Rattle.std.proofs.Common.{sym, ap, ◌∙◌}
use Rattle.mp_tree.specs.Values.{number_or_zero}
use Rattle.mp_tree.proofs.Valued.Numbers.{number_or_zero-none, number_or_zero-of}
use Rattle.mp_tree.proofs.converting.whole_or_zero.Goals as goal

pub returns-in-Some : goal.returns-in-Some
returns-in-Some c = sym (number_or_zero-of c.in-Some.whole) ∙ ap number_or_zero c.in-Some.ensures

pub returns-in-None : goal.returns-in-None
returns-in-None c = c.from_u64.ensures.number ∙ sym number_or_zero-none ∙ ap number_or_zero c.in-None.ensures
