use Rattle.std.proofs.Common.{◌≡◌, arith, sym, ◌∙◌}
use Rattle.mp_pointer.proofs.Facts.{same_numeral, bytes_differ}
use Rattle.mp_patch.specs.Operation.{dash}
use Rattle.mp_patch.proofs.containers.index_in.Goals as goal

pub returns-else-index-len : goal.returns-else-index-len
returns-else-index-len c = (
  bytes_differ c.args.token.now dash c.eq.result c.eq.ensures c.if-eq.false,
  λ i is. let same : i ≡ c.in_ok-index.index = same_numeral i c.in_ok-index.index (sym is ∙ c.in_ok-index.ensures) in omega arith,
)
