use Rattle.mp_merge.proofs.Clashes.Exchange.{exchange}
use Rattle.mp_merge.proofs.laws.exchange.Goals as goal

pub returns : goal.returns
returns c = exchange
