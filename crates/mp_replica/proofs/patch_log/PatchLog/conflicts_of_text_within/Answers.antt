use Rattle.std.proofs.Common.{Some}
use Rattle.mp_replica.specs.PatchLog.{stored_of}
use Rattle.mp_replica.proofs.patch_log.PatchLog.conflicts_of_text_within.Goals as goal

pub returns : goal.returns
returns c = c.in_ok-write_first_pairs.ensures (Some c.args.identity) (stored_of c.args.self.now) c.in_ok-found.ensures
