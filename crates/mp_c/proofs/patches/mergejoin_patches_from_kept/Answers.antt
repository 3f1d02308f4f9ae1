use Rattle.std.proofs.Common.{◌∙◌, ap, refl, subst, sym}
use Rattle.mp_replica.specs.Held.{HeldPatches}
use Rattle.mp_replica.specs.declared.fault.LiveFault.TheVariants.{OutOfMemory}
use Rattle.mp_c.specs.OnHandles.{HoldsKept, IsMadeOfKept, OfPatches, handle_fault, patches_in}
use Rattle.mp_c.specs.Replies.{HandleReplies}
use Rattle.mp_c.specs.Report.{a_document}
use Rattle.mp_c.proofs.OnPatches.{made_of_kept}
use Rattle.mp_c.proofs.Started.{live_replied}
use Rattle.mp_c.proofs.patches.mergejoin_patches_from_kept.Goals as goal

pub returns-in-Err : goal.returns-in-Err
returns-in-Err c =
    let held = c.args.patches.now.value in
    live_replied c.args.limit a_document (λ a. OfPatches (IsMadeOfKept c.args.limit c.args.kept.now) held a held) c.report_live_fault.result c.args.out.now c.report_live_fault.new.out c.in-Err.fault (c.in-Err.ensures.held, refl) (tt, refl) c.report_live_fault.ensures

pub returns-in_default : goal.returns-in_default
returns-in_default c = (handle_fault OutOfMemory, (tt, refl), c.report_no_memory.ensures)

pub returns : goal.returns
returns c =
    let kept = c.args.kept.now in
    let before = patches_in c.args.patches.now.value in
    let after = c.deref.result.now in
    let made : HoldsKept kept c.in-Ok.made =
    (c.in-Ok.ensures.held, λ from texts is has. record { documents = has.documents; read = has.read; taken = c.in-Ok.ensures.taken from has.documents is has.taken }) in
    let holds : HoldsKept kept after = subst (HoldsKept kept) (sym (c.deref.ensures ∙ c.in-Ok-new.ensures.ok)) made in
    subst (λ (r : HeldPatches). HandleReplies c.args.limit a_document (λ a. IsMadeOfKept c.args.limit kept before a r) c.report_conflict-reply.result c.args.out.now c.report_conflict-reply.new.out) (c.deref.ensures ∙ sym (ap patches_in c.put.ensures))
    (made_of_kept c.args.limit a_document before after c.report_conflict-reply.result c.args.out.now c.report_conflict-reply.new.out kept holds c.report_conflict-reply.ensures)
