use Rattle.std.proofs.Common.{MatchOption, subst}
use Rattle.mp_replica.specs.PatchLog.{IsFirstPair, stored_in}
use Rattle.mp_replica.specs.Private.StoredPatches.{AreApart}
use Rattle.mp_replica.proofs.Reporting.{found_of_chosen}
use Rattle.mp_replica.proofs.stored_patches.StoredPatches.first_conflict.Goals as goal

pub returns : goal.returns
returns c =
    let es = c.self.inside.patches.entries in
    let chosen = c.args.chosen.now in
    subst (λ l. MatchOption c.first_pair.result (AreApart (stored_in l) chosen) (λ pair. IsFirstPair (stored_in l) chosen pair.0 pair.1)) c.self.view_is
    (found_of_chosen (stored_in es) c.self.inside.pairs chosen c.in_ok-wanted.wanted c.first_pair.ensures.ascending c.self.invariant.in_pairs c.in_ok-wanted.ensures c.first_pair.result c.first_pair.ensures.first)
