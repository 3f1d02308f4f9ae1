use Rattle.mp_c.specs.OnHandles.{Settles}
use Rattle.mp_c.proofs.OnReplicas.{shows_document, still_follows}
use Rattle.mp_c.proofs.replica.document.Goals as goal

pub returns : goal.returns
returns c =
    let before = c.args.replica.now in
    let after = c.settle-settled.new.self in
    let settles : Settles before after = (still_follows before after c.settle-settled.ensures.follows, c.settle-settled.ensures.unchanged) in
    shows_document c.args.limit before after settles c.document_text.result c.document_text.ensures.shown c.document_text.ensures.within c.document_text.ensures.replay
