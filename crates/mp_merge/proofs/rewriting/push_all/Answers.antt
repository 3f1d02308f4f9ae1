use Rattle.std.proofs.Common.{[], Some, ap}
use Rattle.std.proofs.lemmas.Result.{on_ok_weaker}
use Rattle.mp_merge.specs.Private.Edits.{NotBothMaps}
use Rattle.mp_merge.proofs.Clashes.ByName.{no_map, not_both_first, not_both_second}
use Rattle.mp_merge.proofs.Rewritings.Walk.{both_maps, edits_one}
use Rattle.mp_merge.proofs.rewriting.push_all.Goals as goal
use Rattle.mp_merge.proofs.rewriting.push_all.Goals.{in_default-via-in-Some+in_default, in_default-via-in_default}

pub returns-in-Some-Some : goal.returns-in-Some-Some
returns-in-Some-Some g c =
    let both = c.in-Some-Some in
    on_ok_weaker c.push_member_edits.result (both_maps _ _ _ _ _ _ _ _ both.ensures.value (ap Some both.ensures'.value) c.empty.ensures) c.push_member_edits.ensures.edits

pub returns-in_default : goal.returns-in_default
returns-in_default g c =
    let p = g.T.Node.means c.args.patch.now in
    let d = g.T.Node.means c.args.doc.now in
    let never : NotBothMaps p (Some d) = elim c.in_default.branch [
      | in_default-via-in-Some+in_default w ↦ not_both_second p d (no_map d w.in_default.ensures'.value)
      | in_default-via-in_default w ↦ not_both_first p (Some d) (no_map p w.in_default.ensures.value)
    ] in
    on_ok_weaker c.push_root_edit.result (λ one. let grew = one never in (grew.0, grew.1, edits_one [] p (Some d) grew.0 never grew.2)) c.push_root_edit.ensures
