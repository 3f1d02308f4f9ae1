use Rattle.std.proofs.Common.{take, get_or}
use Rattle.mp_replica.specs.PatchLog.{HaveArrived, stored_in}
use Rattle.mp_replica.proofs.Conflicting.{one_arrived}
use Rattle.mp_replica.proofs.PairsFound.{no_identity}
use Rattle.mp_replica.proofs.Slices.{passed_all, passed_on}
use Rattle.mp_replica.proofs.stored_patches.StoredPatches.first_missing.Goals as goal

pub loop-identity-preserved : goal.loop-identity-preserved
loop-identity-preserved c =
    let stored = stored_in c.args.self.now in
    let chosen = c.args.chosen.now in
    let k = c.loop-identity.identity-index in
    passed_on (HaveArrived stored) chosen k no_identity c.loop-identity-test.true
    (one_arrived stored (take k chosen) (get_or chosen k no_identity) (c.has.ensures.0 c.if-not-has.false) c.loop-identity.invariant)

pub returns : goal.returns
returns c = passed_all (HaveArrived (stored_in c.args.self.now)) c.args.chosen.now c.loop-identity.identity-index c.loop-identity-test.false c.loop-identity.invariant
