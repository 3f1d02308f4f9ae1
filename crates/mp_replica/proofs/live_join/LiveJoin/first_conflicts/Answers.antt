use Rattle.std.proofs.Common.{arith, ◌≡◌, ◌<◌, ◌↔◌, IsTrue, length, nat_lt, option_map, sym, subst}
use Rattle.mp_tree.specs.View.{document}
use Rattle.mp_tree.proofs.Facts.{IsDocument-document}
use Rattle.mp_replica.proofs.Bounded.{counts, held_nothing_of, held_within}
use Rattle.mp_replica.proofs.live_join.LiveJoin.first_conflicts.Goals as goal

pub returns-in-Ok : goal.returns-in-Ok
returns-in-Ok c =
    let places = c.in-Ok.field-0.places.items in
    let total = c.in-Ok.field-0.total in
    let long : c.len.result ≡ length places = omega (arith, c.len.ensures, c.in-Ok.field-0.places.ok.0) in
    held_within (option_map document c.args.self.now.joined) (document c.args.patch.now) places total (nat_lt c.len.result total) c.requires
    (subst (λ n. IsTrue (nat_lt n total) ↔ (length places < total)) (sym long) (counts (length places) total)) c.in-Ok.ensures

pub returns-in-Err : goal.returns-in-Err
returns-in-Err c = rw c.new.ensures.items (held_nothing_of c.merge_laws.ensures (option_map document c.args.self.now.joined) (document c.args.patch.now) (IsDocument-document c.args.patch.now) c.requires)
