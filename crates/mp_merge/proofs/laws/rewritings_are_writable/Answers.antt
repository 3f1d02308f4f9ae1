use Rattle.mp_merge.proofs.Readable.{rewriting_is_no_deeper, rewriting_is_writable}
use Rattle.mp_merge.proofs.laws.rewritings_are_writable.Goals as goal

pub returns-clause-writable : goal.returns-clause-writable
returns-clause-writable c = rewriting_is_writable c.parts_are_readable.ensures

pub returns-clause-depth : goal.returns-clause-depth
returns-clause-depth c = rewriting_is_no_deeper c.parts_are_shallower.ensures
