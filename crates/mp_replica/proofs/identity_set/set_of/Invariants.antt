use Rattle.std.proofs.Common.{take}
use Rattle.mp_replica.specs.Private.Identities.{HasThese}
use Rattle.mp_replica.proofs.identity_set.set_of.Given as goal

abbrev pub invariant-loop-identity : goal.invariant-loop-identity
invariant-loop-identity l = HasThese l.set (take l.identity-index l.identities)
