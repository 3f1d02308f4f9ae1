use Rattle.std.proofs.Common.{take, ap, ◌∙◌}
use Rattle.std.proofs.lemmas.Result.{IfOk-weaker}
use Rattle.mp_pointer.proofs.Tokens.Lists.{to_end}
use Rattle.mp_pointer.proofs.pointer.Pointer.copy.Goals as goal

pub returns : goal.returns
returns c =
    let t = c.args.self.now in
    IfOk-weaker c.front.result _ _ (λ p is. is ∙ ap (λ n. take n t) c.len.ensures ∙ to_end t) c.front.ensures
