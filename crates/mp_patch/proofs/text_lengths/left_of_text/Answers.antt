use Rattle.std.proofs.Common.{◌≢◌, ◌<◌, [], length, true≢false, eq-eqb, sym, ap, ◌∙◌, arith}
use Rattle.std.proofs.lemmas.List.{drop_all}
use Rattle.mp_tree.specs.Text.{text}
use Rattle.mp_patch.specs.Form.{shapes}
use Rattle.mp_patch.specs.View.{operation_of, operations_of}
use Rattle.mp_patch.proofs.Shapes.Lengths.{next_length, parts_length, patch-length, shape-length, some_length}
use Rattle.mp_patch.proofs.text_lengths.left_of_text.Goals as goal

-- an operation is too long, or what stands after it
pub returns-in_err-left_of_shape : goal.returns-in_err-left_of_shape
returns-in_err-left_of_shape c =
    let ops = c.args.ops.now in
    let next = next_length ops c.loop-op.op-index c.op-item.result c.loop-op-test.true c.op-item.is in
    let same = shape-length c.shape_of.result (operation_of c.op-item.result) c.shape_of.ensures in
    let over : c.args.budget < length (text (shapes (operations_of ops))) = omega (arith, c.loop-op.invariant, next, same, c.in_err-left_of_shape.ensures, patch-length ops) in
    rw c.from_residual-in_err-left_of_shape.ensures over

pub returns-in_err-left-2 : goal.returns-in_err-left-2
returns-in_err-left-2 c =
    let ops = c.args.ops.now in
    let next = next_length ops c.loop-op.op-index c.op-item.result c.loop-op-test.true c.op-item.is in
    let same = shape-length c.shape_of.result (operation_of c.op-item.result) c.shape_of.ensures in
    let over : c.args.budget < length (text (shapes (operations_of ops))) = omega (arith, c.loop-op.invariant, next, same, c.in_ok-left_of_shape.ensures, c.in_err-left-2.ensures, patch-length ops) in
    rw c.from_residual-in_err-left-2.ensures over

pub loop-op-preserved : goal.loop-op-preserved
loop-op-preserved c =
    let next = next_length c.args.ops.now c.loop-op.op-index c.op-item.result c.loop-op-test.true c.op-item.is in
    let same = shape-length c.shape_of.result (operation_of c.op-item.result) c.shape_of.ensures in
    omega (arith, c.loop-op.invariant, next, same, c.in_ok-left_of_shape.ensures, c.in_ok-left-2.ensures)

pub returns : goal.returns
returns c =
    let ops = c.args.ops.now in
    let some : ops ≢ [] = λ e. true≢false (sym (c.is_empty.ensures ∙ eq-eqb _ _ (ap length e)) ∙ c.if-is_empty.false) in
    let none = ap parts_length (drop_all c.loop-op.op-index ops (omega (arith, c.loop-op-test.false))) in
    omega (arith, c.loop-op.invariant, none, some_length ops some, patch-length ops)
