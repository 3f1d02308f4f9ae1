use Rattle.std.proofs.Common.{◌≤◌, max, Some, sym, subst}
use Rattle.std.proofs.lemmas.Result.{on_ok_weaker}
use Rattle.mp_tree.specs.Document.{depth}
use Rattle.mp_tree.specs.View.{document}
use Rattle.mp_merge.proofs.Application.Depth.{depth-merge_patch}
use Rattle.mp_merge.proofs.in_place.merge_into.Goals as goal

pub returns-clause-depth : goal.returns-clause-depth
returns-clause-depth c =
    let t = document c.args.target.now in
    let p = document c.args.patch.now in
    on_ok_weaker c.merge_at.result (λ is. subst (λ d. depth d ≤ max (depth t) (depth p)) (sym is) (depth-merge_patch (Some t) p)) c.merge_at.ensures.merged
