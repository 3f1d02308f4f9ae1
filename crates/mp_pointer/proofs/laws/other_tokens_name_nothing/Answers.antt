use Rattle.mp_pointer.proofs.Tokens.Indices.{names_nothing_else}
use Rattle.mp_pointer.proofs.laws.other_tokens_name_nothing.Goals as goal

pub returns : goal.returns
returns c = names_nothing_else
