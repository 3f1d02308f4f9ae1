use Rattle.mp_c.specs.OnHandles.{SettlesPatches}
use Rattle.mp_c.proofs.OnPatches.{gives_kept, still_taken}
use Rattle.mp_c.proofs.patches.kept.Goals as goal

pub returns : goal.returns
returns c =
    let before = c.args.patches.now in
    let after = c.settle-settled.new.self in
    let settles : SettlesPatches before after = (still_taken before after c.settle-settled.ensures.taken, c.settle-settled.ensures.unchanged) in
    gives_kept c.args.limit before after c.kept.result c.readings_are_documents.ensures.document settles c.kept.ensures.text c.kept.ensures.within c.kept.ensures.empty c.kept.ensures.kept
