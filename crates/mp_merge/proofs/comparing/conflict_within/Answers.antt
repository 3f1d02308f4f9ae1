use Rattle.std.proofs.Common.{◌≡◌, [], List, Some, ap, ◌∙◌, subst}
use Rattle.mp_tree.specs.Look.{Path}
use Rattle.mp_merge.specs.Private.Budgets.{add_each}
use Rattle.mp_merge.specs.Private.Clashes.{WalksClashes, report, reported_of}
use Rattle.mp_merge.proofs.Clashes.Conflicts.{walk_finds_all}
use Rattle.mp_merge.proofs.Clashes.Reported.{reported_is}
use Rattle.mp_merge.proofs.comparing.conflict_within.Goals as goal

pub returns : goal.returns
returns g c =
    let p = g.T.Node.means c.args.p.now in
    let q = g.T.Node.means c.args.q.now in
    let budget = c.within.result in
    let walk = c.in_ok-push_clashes.ensures.found in
    let is : reported_of c.push_clashes.new.found ≡ add_each report (([], budget), 0) walk.0 = walk.1 ∙ ap (λ (ws : List Path). add_each report ((ws, budget), 0) walk.0) c.new.ensures.items in
    record {
      all = walk.0;
      clashes = walk_finds_all p q walk.0 (c.nodes_are_documents.ensures c.args.p.now) (subst (λ (s : Path). WalksClashes s p (Some q) walk.0) c.empty-path.ensures walk.2);
      first = reported_is c.args.limit budget c.within.ensures walk.0 (reported_of c.push_clashes.new.found) is;
    }
