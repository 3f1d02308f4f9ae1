use Rattle.std.proofs.Common.{arith}
use Rattle.mp_pointer.proofs.Tokens.Lists.{proper_prefix, prefix_begins}
use Rattle.mp_pointer.proofs.pointer.Pointer.is_proper_prefix_of.Goals as goal

pub returns-then-len : goal.returns-then-len
returns-then-len c =
    let t = c.args.self.now in
    let u = c.args.other.now in
    (λ yes. proper_prefix t u (omega arith) (c.is_front_of.ensures.0 yes), λ p. c.is_front_of.ensures.1 (prefix_begins t u p).1)
