use Rattle.std.proofs.Common.{map, refl, sym, subst, arith}
use Rattle.mp_merge.specs.Outcome.{IsOutcome}
use Rattle.mp_merge.proofs.Outcome.{join_gives_outcome}
use Rattle.mp_merge.proofs.lists.replay_within.Goals as goal

pub returns-clause-outcome : goal.returns-clause-outcome
returns-clause-outcome g c =
    let f = g.T.Node.means in
    let good = c.nodes_are_documents.ensures in
    let d = f c.args.start in
    let patches = map f c.args.patches.now in
    let j = f c.in_ok-joined.joined in
    subst (λ e. IsOutcome d patches e) (sym c.in_ok-merge_owned.ensures.merged) (join_gives_outcome d patches j (good c.args.start) (good c.in_ok-joined.joined) c.in_ok-joined.ensures.joined)

pub returns-clause-depth : goal.returns-clause-depth
returns-clause-depth g c n short within =
    omega (arith, c.in_ok-merge_owned.ensures.depth, short, c.in_ok-joined.ensures.depth n within)

pub returns-then-is_empty-clause-none : goal.returns-then-is_empty-clause-none
returns-then-is_empty-clause-none g c none = refl
