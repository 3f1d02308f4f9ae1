use Rattle.mp_pointer.proofs.Changes.Edited.{from_first}
use Rattle.mp_pointer.proofs.editing.edit_part_in.Goals as goal

pub returns : goal.returns
returns g c = rw (from_first c.args.pointer.now c.args.count) at c.edit_between.ensures
