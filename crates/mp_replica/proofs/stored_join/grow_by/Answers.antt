use Rattle.std.proofs.Common.{None, Some, ap, refl, subst, true}
use Rattle.mp_tree.specs.View.{document}
use Rattle.mp_tree.proofs.Facts.{IsDocument-document}
use Rattle.mp_merge.specs.Join.{JoinsInto}
use Rattle.mp_replica.proofs.Growing.{grew_joins}
use Rattle.mp_replica.proofs.stored_join.grow_by.Goals as goal

pub returns-in-Ok-clause-grown : goal.returns-in-Ok-clause-grown
returns-in-Ok-clause-grown c grown =
    let p = document c.args.patch.now in
    let b = document c.in-Some.before in
    let n = document c.join_into.new.joined in
    let joined : JoinsInto true b p n = subst (λ u. JoinsInto u b p n) grown c.in-Ok.ensures.joined in
    rw c.in-Some.is (grew_joins c.merge_laws.ensures (Some b) (Some n) p (IsDocument-document c.args.patch.now) (IsDocument-document c.join_into.new.joined) (n, refl, joined))

pub returns-in-Ok-copy-clause-grown : goal.returns-in-Ok-copy-clause-grown
returns-in-Ok-copy-clause-grown c grown =
    let p = document c.args.patch.now in
    let n = document c.in-Ok-copy.copy in
    rw c.in-None.is (grew_joins c.merge_laws.ensures None (Some n) p (IsDocument-document c.args.patch.now) (IsDocument-document c.in-Ok-copy.copy) (ap Some c.in-Ok-copy.ensures.equal))
