use Rattle.std.proofs.Common.{◌≡◌, sym, ◌∙◌, subst}
use Rattle.mp_tree.specs.View.{document}
use Rattle.mp_replica.specs.Messages.{Becomes, Sent}
use Rattle.mp_replica.specs.declared.message.Arrival.TheVariants.{Stored}
use Rattle.mp_replica.proofs.Alike.{becomes_follows}
use Rattle.mp_replica.proofs.patch_log.PatchLog.receive_text.Goals as goal

pub returns-in-Some-clause-received : goal.returns-in-Some-clause-received
returns-in-Some-clause-received c start messages n has p read =
    let m : Sent = record { epoch = c.args.epoch; identity = c.args.identity; patch = p } in
    becomes_follows n start messages c.in-Some.arrival m c.args.self.now c.args.self.now (c.in-Some.ensures p) has

pub returns-clause-received : goal.returns-clause-received
returns-clause-received c start messages n has p read =
    let log = c.args.self.now in
    let now = c.store.new.self in
    let m : Sent = record { epoch = c.args.epoch; identity = c.args.identity; patch = p } in
    let same : document c.in_ok-patch.patch ≡ p = (let both = sym c.in_ok-patch.ensures ∙ read in cc) in
    let new = c.in_default.ensures in
    let is : Becomes Stored (record { epoch = c.args.epoch; identity = c.args.identity; patch = document c.in_ok-patch.patch }) log now =
    (new.0, new.1, c.store.ensures.epoch, c.store.ensures.start, c.in_ok-store.ensures.stored) in
    becomes_follows n start messages Stored m log now (subst (λ d. Becomes Stored (record { epoch = c.args.epoch; identity = c.args.identity; patch = d }) log now) same is) has
