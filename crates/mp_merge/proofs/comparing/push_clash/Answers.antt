use Rattle.std.proofs.Common.{◌∷◌, [], inr, refl}
use Rattle.std.proofs.lemmas.Bool.{iff_false}
use Rattle.std.proofs.lemmas.Result.{on_ok_weaker}
use Rattle.mp_merge.proofs.comparing.push_clash.Goals as goal

pub returns : goal.returns
returns g c =
    on_ok_weaker c.push_place.result (λ is. (c.args.path.now ∷ [], is, inr (iff_false c.equals.ensures c.if-equals.false, refl))) c.push_place.ensures
