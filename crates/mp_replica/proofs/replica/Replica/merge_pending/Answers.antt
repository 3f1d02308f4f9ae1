use Rattle.std.proofs.Common.{option_map, ◌≡◌, sym, subst, ap, ◌∙◌}
use Rattle.mp_tree.specs.View.{document}
use Rattle.mp_tree.proofs.Facts.{IsDocument-document}
use Rattle.mp_replica.specs.Following.{settled}
use Rattle.mp_replica.proofs.Following.{merged_again}
use Rattle.mp_replica.proofs.replica.Replica.merge_pending.Goals as goal

pub returns-in-Some-clause-stays : goal.returns-in-Some-clause-stays
returns-in-Some-clause-stays c =
    let d = document c.self.inside.shown in
    let e = document c.merge_into.new.target in
    let p = document c.in-Some.patch.now in
    let again = merged_again c.merge_laws.ensures c.merge_into.result p d e (IsDocument-document c.self.inside.shown) (IsDocument-document c.in-Some.patch.now) c.merge_into.ensures.merged c.merge_into.ensures.resumes in
    rw (← c.self.view_is) (subst (λ o. settled e (option_map document o) ≡ settled d (option_map document o)) (ap (option_map (λ q. q.now)) (sym c.in-Some.is) ∙ c.pending.ensures) again)
