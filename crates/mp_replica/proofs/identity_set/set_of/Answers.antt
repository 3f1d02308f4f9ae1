use Rattle.std.proofs.Common.{take, get_or}
use Rattle.mp_replica.specs.Private.Identities.{HasThese}
use Rattle.mp_replica.proofs.Identities.{none_has, one_more}
use Rattle.mp_replica.proofs.PairsFound.{no_identity}
use Rattle.mp_replica.proofs.Slices.{passed_all, passed_on}
use Rattle.mp_replica.proofs.identity_set.set_of.Goals as goal

pub loop-identity-init : goal.loop-identity-init
loop-identity-init c = none_has c.new-set.result c.new-set.ensures.empty

pub loop-identity-preserved : goal.loop-identity-preserved
loop-identity-preserved c =
    let ids = c.args.identities.now in
    let k = c.loop-identity.identity-index in
    passed_on (HasThese c.insert.new.self) ids k no_identity c.loop-identity-test.true
    (one_more c.loop-identity.set c.insert.new.self (take k ids) (get_or ids k no_identity) c.in_ok-_is_new.ensures.updates c.loop-identity.invariant)

pub returns : goal.returns
returns c = passed_all (HasThese c.loop-identity.set) c.args.identities.now c.loop-identity.identity-index c.loop-identity-test.false c.loop-identity.invariant
