use Rattle.std.proofs.lemmas.Bool.Decides.{Decides-at}
use Rattle.mp_pointer.proofs.Facts.{are_same_tokens-Decides}
use Rattle.mp_patch.proofs.op.are_equal.Goals as goal

pub returns : goal.returns
returns c = Decides-at _ _ c.eq.ensures (are_same_tokens-Decides c.args.pointer.now c.args.other.now)
