use Rattle.std.proofs.Common.{length}
use Rattle.mp_cli.proofs.Runs.{WrittenSoFar}
use Rattle.mp_cli.proofs.running.write_whole.Given as goal

abbrev pub invariant-loop-rest : goal.invariant-loop-rest
invariant-loop-rest g l = WrittenSoFar g.W.Write.contents l.fn.device l.device l.text l.rest

abbrev pub decreases-loop-rest : goal.decreases-loop-rest
decreases-loop-rest g l = length l.rest
