use Rattle.std.proofs.Common.{◌≡◌, ◌∙◌, ap, rules, subst, sym}
use Rattle.mp_replica.specs.Held.{HeldPatches}
use Rattle.mp_replica.specs.declared.fault.LiveFault.TheVariants.{OutOfMemory}
use Rattle.mp_c.specs.OnHandles.{HasCombined, handle_fault, patches_in}
use Rattle.mp_c.specs.Replies.{HandleReplies}
use Rattle.mp_c.specs.Report.{a_document}
use Rattle.mp_c.proofs.OnPatches.{combined_as}
use Rattle.mp_c.proofs.patches.combine_into.Goals as goal

pub returns-in_default : goal.returns-in_default
returns-in_default c =
    let before = c.args.patches.now in
    let is : HasCombined c.args.limit before (patches_in c.args.other.now.value) (handle_fault OutOfMemory) before (patches_in c.held_or_none.new.patches.value) = search rules in
    (handle_fault OutOfMemory, is, c.report_no_memory.ensures)

pub returns : goal.returns
returns c =
    let before = c.args.patches.now in
    let other = c.deref_mut.result.now in
    let after = c.combine-added.new.self in
    let left = c.combine-added.new.other in
    let combined = combined_as c.args.limit a_document before after c.report_added.result c.args.out.now c.report_added.new.out other left c.combine-added.result c.combine-added.ensures.texts c.combine-added.ensures.conflict c.report_added.ensures in
    let owned : other ≡ patches_in c.args.other.now.value = c.deref_mut.ensures.value ∙ c.in-Ok.ensures in
    let put : patches_in c.put.new.self.value ≡ left = ap patches_in c.put.ensures in
    subst (λ (o : HeldPatches). HandleReplies c.args.limit a_document (λ a. HasCombined c.args.limit before o a after (patches_in c.put.new.self.value)) c.report_added.result c.args.out.now c.report_added.new.out) owned
    (subst (λ (l : HeldPatches). HandleReplies c.args.limit a_document (λ a. HasCombined c.args.limit before other a after l) c.report_added.result c.args.out.now c.report_added.new.out) (sym put) combined)
