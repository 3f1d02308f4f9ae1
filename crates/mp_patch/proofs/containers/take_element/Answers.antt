use Rattle.std.proofs.Common.{◌<◌, ◌^◌, length, arith}
use Rattle.mp_pointer.proofs.Facts.{no_index_here-by, past_end-by}
use Rattle.mp_patch.proofs.Operations.SingleSteps.{element_removed-by}
use Rattle.mp_patch.proofs.containers.take_element.Goals as goal

pub returns-in_err-index : goal.returns-in_err-index
returns-in_err-index g c =
    let given = c.args.elements.now in
    let short : length given.items < 2 ^ 64 = omega (arith, given.small, given.ok.0) in
    record { says = rw c.from_residual.ensures (no_index_here-by g.T.Node.means c.args.token.now given short c.in_err-index.ensures) }

pub returns-then-index-len : goal.returns-then-index-len
returns-then-index-len g c =
    let given = c.args.elements.now in
    record { says = element_removed-by g.T.Node.means c.args.token.now c.in_ok-index.index given.items c.remove.new.self.items c.remove.result c.in_ok-index.ensures (omega (arith, given.ok.0)) c.remove.ensures.value c.remove.ensures.items }

pub returns-else-index-len : goal.returns-else-index-len
returns-else-index-len g c =
    let given = c.args.elements.now in
    record { says = past_end-by g.T.Node.means c.args.token.now c.in_ok-index.index given c.in_ok-index.ensures (omega (arith, given.ok.0)) }
