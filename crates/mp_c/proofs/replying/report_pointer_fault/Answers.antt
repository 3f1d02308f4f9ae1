use Rattle.std.proofs.Common.{inl, subst, sym}
use Rattle.mp_c.specs.Replies.{IsReply}
use Rattle.mp_c.specs.Report.{report_of_pointer}
use Rattle.mp_c.proofs.replying.report_pointer_fault.Goals as goal

pub returns-in-NoSlash : goal.returns-in-NoSlash
returns-in-NoSlash c = inl (subst (λ why. IsReply (report_of_pointer why) c.write.result c.args.out.now c.write.new.out) (sym c.in-NoSlash.is) c.write.ensures)
