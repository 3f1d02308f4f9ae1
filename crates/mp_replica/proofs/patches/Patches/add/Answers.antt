use Rattle.std.proofs.Common.{ap}
use Rattle.mp_replica.specs.Held.{held_places}
use Rattle.mp_replica.proofs.Growing.{some_mapped}
use Rattle.mp_replica.proofs.Taking.{conflict_takes}
use Rattle.mp_replica.proofs.patches.Patches.add.Goals as goal

pub returns-then-is_some-clause-taken : goal.returns-then-is_some-clause-taken
returns-then-is_some-clause-taken c taken has =
    let some = some_mapped held_places c.self.inside.places c.args.self.now.places c.if-is_some.ensures (ap (λ r. r.places) c.self.view_is) in
    (conflict_takes c.args.self.now taken c.args.patch some has, some)
