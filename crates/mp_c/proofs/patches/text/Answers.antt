use Rattle.std.proofs.Common.{List, ℕ, string_bytes, subst}
use Rattle.mp_c.specs.OnHandles.{SettlesPatches, handle_text}
use Rattle.mp_c.specs.Replies.{IsReply}
use Rattle.mp_c.specs.Report.{report_of_text, a_document}
use Rattle.mp_c.proofs.OnPatches.{not_joined, still_taken}
use Rattle.mp_c.proofs.patches.text.Goals as goal

pub returns-in-Ok : goal.returns-in-Ok
returns-in-Ok c =
    let before = c.args.patches.now in
    let after = c.settle-settled.new.self in
    let settles : SettlesPatches before after = (still_taken before after c.settle-settled.ensures.taken, c.settle-settled.ensures.unchanged) in
    let (places, pending, joined) = c.in-Ok.ensures.joined in
    let written = subst (λ (t : List ℕ). IsReply (report_of_text c.args.limit t) c.write_result.result c.args.out.now c.write_result.new.out) c.as_str.ensures.value c.write_result.ensures in
    (handle_text (string_bytes c.in-Ok.joined), (settles, places, pending, joined, λ texts has. c.in-Ok.ensures.join texts (settles.0 texts has), c.in-Ok.ensures.within), written)

pub returns-in-Err : goal.returns-in-Err
returns-in-Err c =
    let before = c.args.patches.now in
    let after = c.settle-settled.new.self in
    let settles : SettlesPatches before after = (still_taken before after c.settle-settled.ensures.taken, c.settle-settled.ensures.unchanged) in
    not_joined c.args.limit a_document before after c.report_no_join.result c.args.out.now c.report_no_join.new.out c.in-Err.fault settles c.in-Err.ensures.joined c.in-Err.ensures.join c.report_no_join.ensures
