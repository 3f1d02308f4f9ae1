use Rattle.mp_c.specs.OnHandles.{Settles}
use Rattle.mp_c.proofs.OnReplicas.{shows_join, still_follows}
use Rattle.mp_c.proofs.replica.joined.Goals as goal

pub returns : goal.returns
returns c =
    let before = c.args.replica.now in
    let after = c.settle-settled.new.self in
    let settles : Settles before after = (still_follows before after c.settle-settled.ensures.follows, c.settle-settled.ensures.unchanged) in
    shows_join c.args.limit before after settles c.joined_text.result c.joined_text.ensures.joined c.joined_text.ensures.within c.joined_text.ensures.join
