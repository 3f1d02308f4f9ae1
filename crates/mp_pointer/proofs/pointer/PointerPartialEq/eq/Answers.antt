use Rattle.std.proofs.Common.{◌≡◌, length, arith}
use Rattle.std.specs.Bool.{one_answer}
use Rattle.mp_pointer.specs.Spelling.{are_same_tokens}
use Rattle.mp_pointer.proofs.Tokens.Lists.{same_from_front, front_of_same, are_same_tokens-Decides}
use Rattle.mp_pointer.proofs.pointer.PointerPartialEq.eq.Goals as goal

pub returns-then-len : goal.returns-then-len
returns-then-len c =
    let t = c.args.self.now in
    let u = c.args.other.now in
    let long : length t ≡ length u = omega arith in
    one_answer c.is_front_of.result (are_same_tokens t u) (λ yes. same_from_front t u long (c.is_front_of.ensures.0 yes), λ same. c.is_front_of.ensures.1 (front_of_same t u same)) (are_same_tokens-Decides t u)
