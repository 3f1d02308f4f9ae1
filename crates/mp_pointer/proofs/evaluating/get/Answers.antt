use Rattle.std.proofs.Common.{ap, ◌∙◌, arith}
use Rattle.std.proofs.lemmas.List.{take_all}
use Rattle.mp_tree.specs.View.{document}
use Rattle.mp_pointer.specs.Part.{part}
use Rattle.mp_pointer.proofs.evaluating.get.Goals as goal

pub returns : goal.returns
returns c =
    let tokens = c.args.pointer.now in
    c.part_in.ensures ∙ ap (part (document c.args.doc.now)) (take_all c.len.result tokens (omega (arith, c.len.ensures)))
