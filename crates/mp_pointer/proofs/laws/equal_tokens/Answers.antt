use Rattle.mp_pointer.proofs.Tokens.Lists.{compares_tokens}
use Rattle.mp_pointer.proofs.laws.equal_tokens.Goals as goal

pub returns : goal.returns
returns c = compares_tokens
