use Rattle.std.proofs.Common.{[], ◌∷◌, ◌++◌, take, ap, ◌∙◌}
use Rattle.mp_pointer.proofs.Tokens.Lists.{to_end}
use Rattle.mp_pointer.proofs.pointer.Pointer.child.Goals as goal

pub returns : goal.returns
returns c =
    let t = c.args.self.now in
    c.in_ok-push.ensures.ok ∙ ap (λ xs. xs ++ c.args.token.now ∷ []) (c.in_ok-child.ensures ∙ ap (λ n. take n t) c.len.ensures ∙ to_end t)
