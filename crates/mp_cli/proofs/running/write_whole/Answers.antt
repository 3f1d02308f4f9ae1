use Rattle.std.proofs.lemmas.List.{take_rest}
use Rattle.std.proofs.Common.{◌≡◌, arith}
use Rattle.mp_cli.proofs.Runs.{Keeps-none, WrittenSoFar-write, WritesPart-failed}
use Rattle.mp_cli.proofs.running.write_whole.Goals as goal

pub loop-rest-preserved : goal.loop-rest-preserved
loop-rest-preserved g c =
    let taken = c.in-Ok.ensures in
    WrittenSoFar-write g.W.Write.contents _ _ _ _ _ _ c.in-Ok.count c.loop-rest.invariant (taken.taken c.if-count-gt0.true) c.if-count-gt0.true taken.bound taken.appended
    (take_rest _ c.in-Ok.count)

pub returns-in_default-clause-failed : goal.returns-in_default-clause-failed
returns-in_default-clause-failed g c =
    let none : c.in-Ok.count ≡ 0 = omega (arith, c.if-count-gt0.false) in
    WritesPart-failed g.W.Write.contents _ _ _ _ _ c.requires c.loop-rest.invariant (Keeps-none _ _ _ _ none c.in-Ok.ensures.appended) (c.in-Ok.ensures.stalled none)

pub returns-in_default-2-clause-failed : goal.returns-in_default-2-clause-failed
returns-in_default-2-clause-failed g c = WritesPart-failed g.W.Write.contents _ _ _ _ _ c.requires c.loop-rest.invariant c.in_default.ensures.appended c.in_default.ensures.failed

-- the flush that failed: all was written before
pub returns-in-Err-clause-failed : goal.returns-in-Err-clause-failed
returns-in-Err-clause-failed g c = WritesPart-failed g.W.Write.contents _ _ _ _ _ c.requires c.loop-rest.invariant c.flush.ensures.kept c.in-Err.ensures.failed
