use Rattle.std.proofs.Common.{option_map}
use Rattle.mp_merge.proofs.Application.Depth.{merged_is_no_deeper}
use Rattle.mp_merge.proofs.merging.merge_owned.Goals as goal

pub returns-clause-depth : goal.returns-clause-depth
returns-clause-depth g c =
    let f = g.T.Node.means in
    merged_is_no_deeper f c.merged.result (option_map f c.args.target) (f c.args.patch) c.merged.ensures
