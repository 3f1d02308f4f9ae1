use Rattle.mp_pointer.proofs.pointer.Pointer.front.Goals as goal

pub returns : goal.returns
returns c = c.front_with_capacity.ensures
