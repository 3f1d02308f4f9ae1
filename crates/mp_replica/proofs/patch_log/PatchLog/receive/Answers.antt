use Rattle.std.proofs.Common.{Ok, ap, arith, refl, subst}
use Rattle.mp_tree.specs.View.{document}
use Rattle.mp_replica.specs.Messages.{Becomes, sent}
use Rattle.mp_replica.specs.PatchLog.{StoresAlso, stored_of}
use Rattle.mp_replica.specs.declared.message.Arrival.TheVariants.{Stored}
use Rattle.mp_replica.proofs.Alike.{becomes_early, becomes_follows, becomes_late, becomes_repeat, becomes_stored}
use Rattle.mp_replica.proofs.patch_log.PatchLog.receive.Goals as goal

pub returns-in-Some : goal.returns-in-Some
returns-in-Some c =
    let log = c.args.self.now in
    let m = sent c.args.message.now in
    let is : Becomes c.in-Some.arrival m log log = c.in-Some.ensures (document c.args.message.now.patch) in
    record {
      stored = λ same none. becomes_stored c.in-Some.arrival m log log is same none;
      repeat = λ same some. let all = becomes_repeat c.in-Some.arrival m log log is same some in (ap Ok all.0, all.1);
      late = λ late. let all = becomes_late c.in-Some.arrival m log log is late in (ap Ok all.0, all.1);
      early = λ early. let all = becomes_early c.in-Some.arrival m log log is early in (ap Ok all.0, all.1);
      start = refl;
      epoch = refl;
      received = λ epoch start messages has. becomes_follows epoch start messages c.in-Some.arrival m log log is has;
      unchanged = tt;
    }

pub returns : goal.returns
returns c =
    let log = c.args.self.now in
    let now = c.store.new.self in
    let m = sent c.args.message.now in
    let new = c.in_default.ensures in
    let all : StoresAlso (stored_of log) m.identity m.patch (stored_of now) = subst (λ p. StoresAlso (stored_of log) m.identity p (stored_of now)) c.in_ok-patch.ensures.equal c.in_ok-store.ensures.stored in
    let is : Becomes Stored m log now = (new.0, new.1, c.store.ensures.epoch, c.store.ensures.start, all) in
    record {
      stored = λ same none. becomes_stored Stored m log now is same none;
      repeat = λ same some. absurd (some new.1);
      late = λ late. let same = new.0 in absurd (omega arith);
      early = λ early. let same = new.0 in absurd (omega arith);
      start = c.store.ensures.start;
      epoch = c.store.ensures.epoch;
      received = λ epoch start messages has. becomes_follows epoch start messages Stored m log now is has;
      unchanged = tt;
    }
