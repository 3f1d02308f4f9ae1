use Rattle.mp_pointer.proofs.Changes.Edited.{edited_doc}
use Rattle.mp_pointer.proofs.editing.edit_part.Goals as goal

pub returns : goal.returns
returns g c = edited_doc _ c.edit_part_in.result _ c.args.doc.now c.edit_part_in.new.node c.edit_part_in.ensures
