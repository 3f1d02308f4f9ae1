use Rattle.mp_cli.proofs.Runs.{ReadSoFar}
use Rattle.mp_cli.proofs.running.read_whole.Given as goal

abbrev pub invariant-loop : goal.invariant-loop
invariant-loop g l = ReadSoFar g.R.Read.remaining l.fn.input l.input l.counter l.bytes.items
