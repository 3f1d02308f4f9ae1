use Rattle.std.proofs.Common.{Some, true, subst}
use Rattle.mp_tree.specs.View.{document}
use Rattle.mp_tree.proofs.Facts.{IsDocument-document}
use Rattle.mp_merge.specs.Private.Unions.{UnitesTo}
use Rattle.mp_merge.proofs.Joins.Union.{depth_of_united, join_of_united}
use Rattle.mp_merge.proofs.joining.join.Goals as goal

pub returns-clause-joined : goal.returns-clause-joined
returns-clause-joined c =
    let p = document c.args.p.now in
    let q = document c.args.q.now in
    let j = document c.unite.new.joined in
    let united : UnitesTo true q (Some p) j = subst (λ b. UnitesTo b q (Some p) j) c.if-not-branch.false (subst (λ d. UnitesTo c.in_ok-unite.field-0 q (Some d) j) c.in_ok-joined.ensures.equal c.in_ok-unite.ensures.united) in
    join_of_united q p j (IsDocument-document c.args.q.now) (IsDocument-document c.args.p.now) united

pub returns-clause-depth : goal.returns-clause-depth
returns-clause-depth c =
    let p = document c.args.p.now in
    let q = document c.args.q.now in
    let j = document c.unite.new.joined in
    let united : UnitesTo true q (Some p) j = subst (λ b. UnitesTo b q (Some p) j) c.if-not-branch.false (subst (λ d. UnitesTo c.in_ok-unite.field-0 q (Some d) j) c.in_ok-joined.ensures.equal c.in_ok-unite.ensures.united) in
    depth_of_united q p j united
