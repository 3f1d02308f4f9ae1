use Rattle.mp_pointer.proofs.Tokens.Indices.{names_elements}
use Rattle.mp_pointer.proofs.laws.indices_name_elements.Goals as goal

pub returns : goal.returns
returns c = names_elements
