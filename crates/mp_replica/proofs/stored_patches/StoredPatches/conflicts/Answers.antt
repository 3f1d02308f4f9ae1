use Rattle.std.proofs.Common.{None, map, IfOk, subst}
use Rattle.std.proofs.lemmas.Result.{IfOk-weaker}
use Rattle.mp_replica.specs.PatchLog.{AreAllPairs, seen, stored_in}
use Rattle.mp_replica.proofs.PairsFound.{all_of}
use Rattle.mp_replica.proofs.stored_patches.StoredPatches.conflicts.Goals as goal

pub returns : goal.returns
returns c =
    let stored = stored_in c.self.inside.patches.entries in
    subst (λ l. IfOk c.all_pairs.result (λ pairs. AreAllPairs (stored_in l) (map seen pairs.items))) c.self.view_is
    (IfOk-weaker c.all_pairs.result _ _ (λ pairs are. all_of None stored c.self.inside.pairs (map seen pairs.items) c.self.invariant.in_pairs are) c.all_pairs.ensures)
