use Rattle.std.proofs.Common.{Some, IsTrue, ap, string_bytes, sym, ◌∙◌}
use Rattle.mp_tree.specs.View.{members_by}
use Rattle.mp_patch.specs.Operation.{AddsTo}
use Rattle.mp_patch.specs.Refusal.{LacksPlace}
use Rattle.mp_patch.specs.Private.Steps.{Inserts}
use Rattle.mp_patch.proofs.Operations.SingleSteps.{value_inserted}
use Rattle.mp_patch.proofs.containers.insert.Goals as goal

pub returns-in-Some : goal.returns-in-Some
returns-in-Some g c =
    let f = g.T.Node.means in
    let w = c.insert_element.new.elements in
    let made = c.in-Some.ensures.made in
    let before = ap f c.in-Some.ensures.value ∙ made c.in-Some.elements.now in
    let out : Inserts c.insert_element.result c.args.fits (string_bytes c.args.token) (f c.args.value) (f c.args.container.now) (f (g.T.Node.of_items w)) = rw (before, made w, sym c.as_str.ensures.value) c.insert_element.ensures in
    out

pub returns-in_ok-set_member : goal.returns-in_ok-set_member
returns-in_ok-set_member g c =
    let f = g.T.Node.means in
    let token = string_bytes c.args.token in
    let v = f c.args.value in
    let old = c.in-Some-members_mut.entries.now in
    let w = c.set_member.new.entries in
    let made = c.in-Some-members_mut.ensures.made in
    let before = ap f c.in-Some-members_mut.ensures.value ∙ made old in
    let out : IsTrue c.args.fits × (¬ LacksPlace token (Some (f c.args.container.now))) × AddsTo v token (f c.args.container.now) (f (g.T.Node.of_members w)) = rw (before, made w) (c.if-not-fits.false, (λ lacks. lacks), value_inserted token v (members_by f old.entries) (members_by f w.entries) c.in_ok-set_member.ensures) in
    out
