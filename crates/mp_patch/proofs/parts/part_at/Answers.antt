use Rattle.std.proofs.Common.{ap, ◌∙◌, arith}
use Rattle.std.proofs.lemmas.List.{take_all}
use Rattle.mp_pointer.specs.Part.{part}
use Rattle.mp_patch.proofs.parts.part_at.Goals as goal

pub returns : goal.returns
returns g c =
    let tokens = c.args.path.now in
    c.part_in.ensures ∙ ap (part (g.T.Node.means c.args.doc.now)) (take_all c.len.result tokens (omega (arith, c.len.ensures)))
