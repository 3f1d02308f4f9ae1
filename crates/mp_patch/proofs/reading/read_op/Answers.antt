use Rattle.std.proofs.Common.{ap, sym, ◌∙◌}
use Rattle.mp_tree.specs.Document.{object}
use Rattle.mp_tree.specs.View.{members_by}
use Rattle.mp_patch.specs.View.{operation_by}
use Rattle.mp_patch.proofs.Forms.Reading.{form_of_map}
use Rattle.mp_patch.proofs.reading.read_op.Goals as goal

pub returns : goal.returns
returns g c =
    let f = g.T.Node.means in
    let is = c.in-Some.ensures.value ∙ ap object (sym (c.into_members.ensures.object _ c.in-Some.ensures.value)) in
    form_of_map (operation_by f) c.read_members.result (members_by f c.into_members.result.entries) (f c.args.element) is c.read_members.ensures
