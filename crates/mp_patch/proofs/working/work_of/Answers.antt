use Rattle.mp_patch.proofs.working.work_of.Goals as goal

pub returns-in-Copy : goal.returns-in-Copy
returns-in-Copy g c = rw c.in-Copy.is c.work_of_copy.ensures
