use Rattle.std.proofs.Common.{refl}
use Rattle.mp_replica.proofs.Following.{follows_none}
use Rattle.mp_replica.proofs.replica.Replica.new.Goals as goal

pub returns-clause-follows : goal.returns-clause-follows
returns-clause-follows c = follows_none c.merge_laws.ensures c.args.start _ refl c.of.ensures.joined c.of.ensures.pending
