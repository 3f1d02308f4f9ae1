use Rattle.std.proofs.Common.{take}
use Rattle.mp_tree.specs.View.{document}
use Rattle.mp_replica.specs.PatchLog.{stored_in}
use Rattle.mp_replica.proofs.PairsFound.{AreNoted}
use Rattle.mp_replica.proofs.pairs.note_clashes.Given as goal

abbrev pub invariant-loop-other : goal.invariant-loop-other
invariant-loop-other l = AreNoted l.identity (stored_in l.patches.entries) (document l.patch) l.fn.pairs l.fits l.pairs (take l.other-index l.others)
