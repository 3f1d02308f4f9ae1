use Rattle.std.proofs.Common.{[], refl}
use Rattle.std.proofs.lemmas.Bool.{iff_false}
use Rattle.std.proofs.lemmas.Result.{on_ok_weaker}
use Rattle.mp_merge.proofs.Rewritings.Walk.{edit_replaces}
use Rattle.mp_merge.proofs.rewriting.push_root_edit.Goals as goal

pub returns : goal.returns
returns g c =
    let p = g.T.Node.means c.args.patch.now in
    let v = g.T.Node.means c.args.doc.now in
    on_ok_weaker c.push_guarded.result
    (λ is other. (_, is, edit_replaces [] _ _ p v _ refl other (iff_false c.equals.ensures c.if-equals.false) c.empty-2.ensures c.empty.ensures c.in_ok-left_by.ensures))
    c.push_guarded.ensures
