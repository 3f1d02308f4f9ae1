use Rattle.std.proofs.Common.{map, IfOk, subst}
use Rattle.std.proofs.lemmas.Result.{IfOk-weaker}
use Rattle.mp_replica.specs.PatchLog.{AreFirstPairsOf, seen, stored_in}
use Rattle.mp_replica.proofs.Listing.{first_pairs_found}
use Rattle.mp_replica.proofs.stored_patches.StoredPatches.conflicts_within.Goals as goal

pub returns : goal.returns
returns c =
    let stored = stored_in c.self.inside.patches.entries in
    let of = c.args.of in
    let limit = c.args.limit in
    subst (λ l. IfOk c.first_pairs.result (λ found. AreFirstPairsOf limit of (stored_in l) (map seen found.pairs.items) found.more)) c.self.view_is
    (IfOk-weaker c.first_pairs.result _ _ (λ found is. first_pairs_found of stored limit c.self.inside.pairs is.4 c.self.invariant.in_pairs is.0 (map seen found.pairs.items) is.1 found.more is.2 is.3) c.first_pairs.ensures)
