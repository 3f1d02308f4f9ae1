use Rattle.std.proofs.Common.{ℕ, inl, inr, refl, subst, sym}
use Rattle.std.specs.Str.{IsValidUpTo}
use Rattle.mp_replica.specs.declared.fault.LiveFault.TheVariants.{OutOfMemory}
use Rattle.mp_c.specs.OnHandles.{Settles, ShowsPart, handle_fault, handle_not_utf8}
use Rattle.mp_c.proofs.OnReplicas.{shows_part, still_follows}
use Rattle.mp_c.proofs.Started.{read_replied}
use Rattle.mp_c.proofs.replica.part.Goals as goal

pub returns-in-Ok : goal.returns-in-Ok
returns-in-Ok c =
    let before = c.args.replica.now in
    let after = c.settle-settled.new.self in
    let settles : Settles before after = (still_follows before after c.settle-settled.ensures.follows, c.settle-settled.ensures.unchanged) in
    let (same, utf8) = c.in-Ok.ensures.cases in
    let shows = shows_part c.args.limit before after settles c.args.pointer.now c.in-Ok.pointer.now same utf8 c.get_text.result c.get_text.ensures.part c.get_text.ensures.within in
    read_replied c.args.limit (λ a. ShowsPart c.args.limit c.args.pointer.now before a after) c.report_live.result c.args.out.now c.report_live.new.out c.get_text.result shows settles c.report_live.ensures

pub returns-in-Err : goal.returns-in-Err
returns-in-Err c =
    let valid = subst (λ (n : ℕ). IsValidUpTo c.args.pointer.now n) (sym c.valid_up_to.ensures) c.in-Err.ensures.cases.1 in
    elim c.report_not_utf8.ensures [
      | inl replied ↦ (handle_not_utf8 c.valid_up_to.result, (refl, valid), replied)
      | inr replied ↦ (handle_fault OutOfMemory, (λ start texts has. has, λ none. refl), replied)
    ]
