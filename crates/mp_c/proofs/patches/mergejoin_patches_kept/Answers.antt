use Rattle.std.proofs.Common.{[], ◌≡◌, ap, option_map, subst, sym, ◌∙◌}
use Rattle.mp_c.specs.OnHandles.{GivesKept, handle_text, patches_in}
use Rattle.mp_c.specs.Private.Reporting.{live_answer}
use Rattle.mp_c.proofs.Started.{IsPlain, plainly_reported}
use Rattle.mp_c.proofs.OnPatches.{none_kept}
use Rattle.mp_c.proofs.patches.mergejoin_patches_kept.Goals as goal

pub returns-in_default : goal.returns-in_default
returns-in_default c =
    let was = sym c.take.ensures.value ∙ ap (option_map (λ b. b.value)) c.in_default.is in
    (handle_text [], none_kept c.holds_join.ensures c.args.limit c.args.patches.now.value c.take.new.self.value was c.take.ensures.rest, c.write_result.ensures)

pub returns : goal.returns
returns c =
    let limit = c.args.limit in
    let given = c.kept-answer.result in
    let held = c.deref_mut.result.now in
    let after = c.kept-answer.new.patches in
    let plain : IsPlain (GivesKept limit) = record { read = λ before after why does. does.1; spelled = λ before after why does. does.1 } in
    let was : held ≡ patches_in c.args.patches.now.value = c.deref_mut.ensures.value ∙ sym (ap patches_in (sym c.take.ensures.value ∙ ap (option_map (λ b. b.value)) c.in-Some.is)) in
    let is : after ≡ patches_in c.put.new.self.value = sym (ap patches_in c.put.ensures) in
    let gives = subst (λ r. GivesKept limit r (live_answer given) (patches_in c.put.new.self.value)) was (subst (λ r. GivesKept limit held (live_answer given) r) is c.kept-answer.ensures) in
    (live_answer given, gives, plainly_reported (GivesKept limit) plain limit given c.report_live.result c.args.out.now c.report_live.new.out held after c.kept-answer.ensures c.report_live.ensures)
