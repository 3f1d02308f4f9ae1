use Rattle.std.proofs.Common.{List, refl, sym, subst}
use Rattle.mp_tree.specs.Look.{Path}
use Rattle.mp_tree.specs.View.{document}
use Rattle.mp_merge.specs.Clash.{AreAllClashes}
use Rattle.mp_merge.proofs.Clashes.FirstOf.{all_without_limit}
use Rattle.mp_merge.proofs.comparing.conflict.Goals as goal

pub returns : goal.returns
returns c =
    let first = c.in_ok-places.ensures in
    let same = all_without_limit _ first.all _ _ first.first refl in
    subst (λ (ws : List Path). AreAllClashes (document c.args.p.now) (document c.args.q.now) ws) (sym same) first.clashes
