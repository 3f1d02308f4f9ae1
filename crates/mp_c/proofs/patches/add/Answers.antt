use Rattle.std.proofs.Common.{rules}
use Rattle.mp_c.specs.OnHandles.{HasAdded, StillTaken}
use Rattle.mp_c.specs.Report.{a_patch}
use Rattle.mp_c.proofs.OnPatches.{added_as}
use Rattle.mp_c.proofs.Started.{reported_unread}
use Rattle.mp_c.proofs.patches.add.Goals as goal

pub returns-in-Ok : goal.returns-in-Ok
returns-in-Ok c =
    added_as c.args.limit a_patch c.args.patches.now c.add_text.new.self c.report_added.result c.args.out.now c.report_added.new.out c.args.patch.now c.in-Ok.added c.in-Ok.ensures.texts c.in-Ok.ensures.conflict c.report_added.ensures

pub returns-in-Err : goal.returns-in-Err
returns-in-Err c =
    let before = c.args.patches.now in
    let after = c.add_text.new.self in
    let still : StillTaken before after = search rules in
    reported_unread c.args.limit a_patch (λ a. HasAdded c.args.limit c.args.patch.now before a after) c.report_unread_text.result c.args.out.now c.report_unread_text.new.out c.args.patch.now c.in-Err.fault c.in-Err.ensures.fault
    c.report_unread_text.ensures (λ why place says. (says, c.in-Err.ensures.unchanged)) still
