use Rattle.std.proofs.Common.{◌∙◌}
use Rattle.std.proofs.lemmas.Iterator.Adapters.{YieldsList-from_vec}
use Rattle.mp_patch.specs.View.{operation_by, operations_by}
use Rattle.mp_patch.proofs.Runs.Growth.{AlwaysYields-map}
use Rattle.mp_patch.proofs.applying.apply_within.Goals as goal

pub returns-clause-runs : goal.returns-clause-runs
returns-clause-runs g c =
    let gives = AlwaysYields-map (operation_by g.T.Node.means) (YieldsList-from_vec {s = c.into_iter.result} c.args.ops.items c.into_iter.ensures.rest (c.into_iter.ensures.len ∙ c.args.ops.ok.0)) in
    c.run.ensures.runs (operations_by g.T.Node.means c.args.ops.items) gives
