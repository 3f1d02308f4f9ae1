use Rattle.std.proofs.Common.{[], ◌∷◌, ◌++◌, option_map, Bor, ap, ◌∙◌}
use Rattle.std.proofs.lemmas.Bool.{iff_false}
use Rattle.std.proofs.lemmas.Result.{on_ok_weaker}
use Rattle.mp_merge.proofs.Rewritings.Walk.{leaves_value, edit_removes, edit_adds, edit_replaces}
use Rattle.mp_merge.proofs.rewriting.push_edit.Goals as goal

pub returns-then-is_null : goal.returns-then-is_null
returns-then-is_null g c =
    let f = g.T.Node.means in
    let p = f c.args.change.now in
    let v = f c.in-Some.there.now in
    let s = c.args.path.now ++ c.args.name.now ∷ [] in
    let place = c.in_ok-place-in-Some.ensures in
    rw (ap (option_map (λ (x : Bor _). f x.now)) c.in-Some.is)
    (on_ok_weaker c.push_guarded.result (λ is other. (_, is, edit_removes c.args.path.now _ _ c.args.name.now p v (c.is_null.ensures.0 c.if-is_null.true) place (c.in_ok-copy-in-Some.ensures ∙ place)))
    c.push_guarded.ensures)

pub returns-in_ok-left_by-in-Some : goal.returns-in_ok-left_by-in-Some
returns-in_ok-left_by-in-Some g c =
    let f = g.T.Node.means in
    let p = f c.args.change.now in
    let v = f c.in-Some.there.now in
    let s = c.args.path.now ++ c.args.name.now ∷ [] in
    let place = c.in_ok-place-in-Some-2.ensures in
    let leaves = leaves_value c.args.path.now c.args.name.now p (iff_false c.is_null.ensures c.if-is_null.false) in
    rw (ap (option_map (λ (x : Bor _). f x.now)) c.in-Some.is)
    (on_ok_weaker c.push_guarded-in-Some.result
    (λ is other. (_, is, edit_replaces s _ _ p v _ leaves other (iff_false c.equals.ensures c.if-equals.false) place (c.in_ok-copy-in-Some-2.ensures ∙ place) c.in_ok-left_by-in-Some.ensures))
    c.push_guarded-in-Some.ensures)

pub returns-in_ok-left_by-in-None : goal.returns-in_ok-left_by-in-None
returns-in_ok-left_by-in-None g c =
    let f = g.T.Node.means in
    let p = f c.args.change.now in
    let s = c.args.path.now ++ c.args.name.now ∷ [] in
    let leaves = leaves_value c.args.path.now c.args.name.now p (iff_false c.is_null-in-None.ensures c.if-is_null-2.false) in
    rw (ap (option_map (λ (x : Bor _). f x.now)) c.in-None.is)
    (on_ok_weaker c.push_unguarded.result (λ is other. (_, is, edit_adds s _ p _ leaves c.in_ok-place-in-None.ensures c.in_ok-left_by-in-None.ensures))
    c.push_unguarded.ensures)
