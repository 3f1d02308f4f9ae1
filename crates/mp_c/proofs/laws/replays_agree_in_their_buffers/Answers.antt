use Rattle.mp_c.proofs.Buffers.{agree}
use Rattle.mp_c.proofs.laws.replays_agree_in_their_buffers.Goals as goal

pub returns : goal.returns
returns c = agree c.replays_agree.ensures.one
