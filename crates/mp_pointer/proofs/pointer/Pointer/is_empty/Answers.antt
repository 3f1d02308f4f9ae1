use Rattle.std.proofs.Common.{length, sym, ap, ◌∙◌, eq-eqb}
use Rattle.std.proofs.lemmas.Bool.{eqb-true}
use Rattle.std.proofs.lemmas.List.{nil_from_length}
use Rattle.mp_pointer.proofs.pointer.Pointer.is_empty.Goals as goal

pub returns : goal.returns
returns c = (λ yes. nil_from_length c.args.self.now (sym c.len.ensures ∙ eqb-true _ _ yes), λ e. eq-eqb _ _ (c.len.ensures ∙ ap length e))
