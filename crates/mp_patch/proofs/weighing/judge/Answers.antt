use Rattle.std.proofs.Common.{sym}
use Rattle.mp_patch.proofs.Operations.Weights.{judged_copy}
use Rattle.mp_patch.proofs.weighing.judge.Goals as goal

pub returns-in-Some-clause-judged : goal.returns-in-Some-clause-judged
returns-in-Some-clause-judged g c =
    let f = g.T.Node.means in
    rw c.in-Copy.is (judged_copy c.args.scale.limit (f c.args.doc.now) c.in-Copy.path c.judge_addition-in-Some.result c.in-Copy.origin (f c.in-Some.part.now) (sym c.in-Some.ensures) c.judge_addition-in-Some.ensures.judged)
