use Rattle.std.proofs.Common.{map, subst, arith}
use Rattle.std.proofs.lemmas.List.{length-map, take_all}
use Rattle.mp_tree.proofs.Facts.{documents_by}
use Rattle.mp_merge.specs.Join.{IsJoin}
use Rattle.mp_merge.proofs.Joins.Laws.{join_is_no_deeper}
use Rattle.mp_merge.proofs.lists.join_all_within.Goals as goal

pub returns-clause-depth : goal.returns-clause-depth
returns-clause-depth g c n within =
    let f = g.T.Node.means in
    let good = c.nodes_are_documents.ensures in
    let ds = c.args.patches.now in
    let joined = c.loop-second.joined in
    let whole = subst (λ ps. IsJoin ps (f joined)) (take_all c.loop-second.second (map f ds) (omega (arith, length-map ds f, c.loop-second-test.false))) c.loop-second.invariant in
    join_is_no_deeper (map f ds) (f joined) n (good joined) (documents_by f good ds) whole within
