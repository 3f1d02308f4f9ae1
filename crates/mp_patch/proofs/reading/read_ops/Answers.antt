use Rattle.std.proofs.Common.{◌≡◌, length, ap, sym, ◌∙◌, subst, arith}
use Rattle.std.specs.Vec.Iter.{into_iter_items}
use Rattle.mp_tree.specs.Document.{list}
use Rattle.mp_tree.specs.View.{items_by}
use Rattle.mp_patch.specs.Form.{IsFormFault}
use Rattle.mp_patch.specs.declared.fault.FormFault.{FormFault}
use Rattle.mp_patch.specs.View.{operation_by}
use Rattle.mp_patch.specs.Private.Faults.{fault_of_element}
use Rattle.mp_patch.proofs.Forms.Reading.{read_more, read_end, read_fault}
use Rattle.mp_patch.proofs.reading.read_ops.Goals as goal

pub loop-element-preserved : goal.loop-element-preserved
loop-element-preserved g c =
    let l = c.loop-element in
    record {
      read = read_more g.T.Node.means (operation_by g.T.Node.means) c.args.elements.items (into_iter_items l.element-iterator) l.ops.items l.invariant.read c.in-Some.element (into_iter_items c.next.new.self) c.in-Ok.op c.push.new.self.items c.in-Some.ensures.steps.0 c.in-Ok.ensures c.in_ok-push-in-Ok.ensures.items;
      can_next = tt;
      is_finite = tt;
    }

pub returns-in-Err : goal.returns-in-Err
returns-in-Err g c =
    let l = c.loop-element in
    let f = g.T.Node.means in
    let given = c.args.elements.items in
    let need_is = read_fault f (operation_by f) given (into_iter_items l.element-iterator) l.ops.items l.invariant.read c.in-Err.refusal c.in-Some.element (into_iter_items c.next.new.self) c.in-Some.ensures.steps.0 c.in-Err.ensures in
    let long : length l.ops.items ≡ c.len.result = omega (arith, l.ops.ok.0) in
    subst (λ (fault : FormFault). IsFormFault fault (list (items_by f given))) (ap (λ n. fault_of_element n c.in-Err.refusal) long ∙ sym c.of_element.ensures) need_is

pub returns : goal.returns
returns g c =
    let l = c.loop-element in
    read_end g.T.Node.means (operation_by g.T.Node.means) c.args.elements.items (into_iter_items l.element-iterator) l.ops.items l.invariant.read (sym l.element-iterator.rest.ok.0 ∙ c.in-None.ensures.steps.0)
