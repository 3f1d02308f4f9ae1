use Rattle.std.proofs.Common.{take}
use Rattle.mp_tree.specs.View.{document}
use Rattle.mp_replica.specs.PatchLog.{stored_in}
use Rattle.mp_replica.proofs.Shown.{HasChosen}
use Rattle.mp_replica.proofs.stored_patches.StoredPatches.after.Given as goal

abbrev pub invariant-loop-identity : goal.invariant-loop-identity
invariant-loop-identity l = HasChosen (stored_in l.self-inside.patches.entries) (document l.start) (take l.identity-index l.chosen) (document l.end)
