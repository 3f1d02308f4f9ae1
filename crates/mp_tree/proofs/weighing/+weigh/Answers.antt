use Rattle.std.proofs.Common.{◌<◌, length, ap, arith}
use Rattle.mp_tree.specs.Weight.{members_weight}
use Rattle.mp_tree.specs.View.{members_by}
use Rattle.mp_tree.proofs.Documents.Depths.{next_entry}
use Rattle.mp_tree.proofs.weighing.+weigh.Goals as goal

-- a name is too heavy
pub left_of_members-returns-in_err-left_of_name : goal.left_of_members-returns-in_err-left_of_name
left_of_members-returns-in_err-left_of_name g t c =
    let f = g.T.Node.means in
    let next = next_entry f c.loop-name.invariant.ascends c.in-Some.ensures.steps in
    let over : c.args.budget < members_weight (members_by f c.args.entries.now.entries) = omega (arith, c.loop-name.invariant.budget, ap members_weight next.first, c.in_err-left_of_name.ensures, ap length c.as_str.ensures.value) in
    rw c.from_residual.ensures over

pub left_of_members-left_of-requires : goal.left_of_members-left_of-requires
left_of_members-left_of-requires g t c κs within =
    let next = next_entry g.T.Node.means c.loop-name.invariant.ascends c.in-Some.ensures.steps in
    (omega (arith, c.decreases, c.loop-name.invariant.deep, next.value_within), within)

-- a value is too heavy
pub left_of_members-returns-in_err-left : goal.left_of_members-returns-in_err-left
left_of_members-returns-in_err-left g t c =
    let f = g.T.Node.means in
    let next = next_entry f c.loop-name.invariant.ascends c.in-Some.ensures.steps in
    let over : c.args.budget < members_weight (members_by f c.args.entries.now.entries) = omega (arith, c.loop-name.invariant.budget, ap members_weight next.first, c.in_ok-left_of_name.ensures, c.in_err-left.ensures, ap length c.as_str.ensures.value) in
    rw c.from_residual-in_err-left.ensures over

pub left_of_members-loop-name-preserved : goal.left_of_members-loop-name-preserved
left_of_members-loop-name-preserved g t c =
    let next = next_entry g.T.Node.means c.loop-name.invariant.ascends c.in-Some.ensures.steps in
    record {
      ascends = next.ascends;
      budget = omega (arith, c.loop-name.invariant.budget, ap members_weight next.first, c.in_ok-left_of_name.ensures, c.in_ok-left.ensures, ap length c.as_str.ensures.value);
      deep = omega (arith, c.loop-name.invariant.deep, next.rest_within);
    }
