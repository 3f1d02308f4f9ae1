use Rattle.std.proofs.Common.{subst, MatchResult}
use Rattle.mp_tree.specs.View.{document}
use Rattle.mp_patch.specs.Run.{Runs, IsApplyFault}
use Rattle.mp_patch.specs.View.{operations_of}
use Rattle.mp_patch.proofs.applying.apply.Goals as goal

pub returns-clause-runs : goal.returns-clause-runs
returns-clause-runs c =
    let operations = operations_of c.args.patch.now in
    subst (λ d. MatchResult c.apply_owned.result (λ e. Runs d operations (document e)) (λ fault. IsApplyFault fault d operations)) c.in_ok-copy.ensures.equal c.apply_owned.ensures.runs
