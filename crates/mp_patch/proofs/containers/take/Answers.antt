use Rattle.std.proofs.Common.{ap, refl, ◌∙◌}
use Rattle.mp_tree.proofs.Facts.{looked_up-by, removed-by}
use Rattle.mp_tree.specs.View.{members_by}
use Rattle.mp_patch.specs.Private.Steps.{TakesOutBy}
use Rattle.mp_pointer.proofs.Facts.{no_child}
use Rattle.mp_patch.proofs.Operations.SingleSteps.{value_removed-by}
use Rattle.mp_patch.proofs.containers.take.Goals as goal

pub returns-in-Some : goal.returns-in-Some
returns-in-Some g c =
    let f = g.T.Node.means in
    let w = c.take_element.new.elements in
    let made = c.in-Some.ensures.made in
    let before = ap f c.in-Some.ensures.value ∙ made c.in-Some.elements.now in
    let out : TakesOutBy f c.take_element.result c.args.token.now (f c.args.container.now) (f (g.T.Node.of_items w)) = rw (before, made w) c.take_element.ensures in
    out

pub returns-in-Some-members_mut : goal.returns-in-Some-members_mut
returns-in-Some-members_mut g c =
    let f = g.T.Node.means in
    let good = c.in-Some-members_mut.ensures.documents in
    let token = c.args.token.now in
    let old = c.in-Some-members_mut.entries.now in
    let w = c.remove.new.self in
    let made = c.in-Some-members_mut.ensures.made in
    let before = ap f c.in-Some-members_mut.ensures.value ∙ made old in
    let taken = value_removed-by f c.remove.result token (members_by f old.entries) (members_by f w.entries) (looked_up-by f good old.entries refl c.remove.ensures.value) (removed-by f good token old w c.remove.ensures.updates) in
    let out : TakesOutBy f c.remove.result token (f c.args.container.now) (f (g.T.Node.of_members w)) = rw (before, made w) (record { says = taken }) in
    out

pub returns-in_default-members_mut : goal.returns-in_default-members_mut
returns-in_default-members_mut g c = record { says = no_child c.args.token.now (g.T.Node.means c.args.container.now) c.in_default.ensures.value c.in_default-members_mut.ensures.value }
