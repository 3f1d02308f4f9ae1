use Rattle.std.proofs.Common.{◌≡◌, ◌≤◌, ◌+◌, Some, None, length, refl, sym, subst, arith}
use Rattle.mp_tree.specs.View.{items_by, members_by}
use Rattle.mp_tree.proofs.Facts.{looked_up-by}
use Rattle.mp_patch.specs.Refusal.{LacksPlace}
use Rattle.mp_patch.proofs.Operations.SingleSteps.{no_element_place-by, element_place-by, in_list}
use Rattle.mp_patch.proofs.Operations.Weights.{in_map, in_array, old_weight}
use Rattle.mp_patch.proofs.weighing.exchange_in.Goals as goal

pub returns-in_err-index_in : goal.returns-in_err-index_in
returns-in_err-index_in g c =
    let f = g.T.Node.means in
    let v = c.in-Some.elements.now in
    let none = c.in_err-index_in.ensures in
    let lacks : LacksPlace c.args.token.now (Some (f c.args.container.now)) = subst (λ d. LacksPlace c.args.token.now (Some d)) (sym c.in-Some.ensures.value) (no_element_place-by f c.args.token.now v.items none.0 (λ i named. omega (arith, none.1 i named, v.ok.0))) in
    rw c.from_residual.ensures lacks

pub returns-in-Some : goal.returns-in-Some
returns-in-Some g c =
    let f = g.T.Node.means in
    let v = c.in-Some.elements.now in
    let d = f c.args.container.now in
    let i = c.in_ok-index_in.field-0 in
    let long : c.len.result ≡ length v.items = omega (arith, v.ok.0) in
    let named = in_list c.args.token.now i c.len.result (length v.items) long c.in_ok-index_in.ensures.1 in
    let within : i ≤ length v.items = omega (arith, c.in_ok-index_in.ensures.0) in
    let place : LacksPlace c.args.token.now (Some d) → ⊥ = λ lacks. element_place-by f c.args.token.now i v.items named within (subst (λ x. LacksPlace c.args.token.now (Some x)) c.in-Some.ensures.value lacks) in
    let says = in_array c.args.token.now d (items_by f v.items) c.in-Some.ensures.value in
    (place, says.0, says.1)

pub weight_of-requires : goal.weight_of-requires
weight_of-requires g c =
    let f = g.T.Node.means in
    let m = c.in_ok-entries in
    let found = looked_up-by f m.ensures.documents m.entries.now.entries refl c.in-Some-get.ensures.value in
    omega (arith, c.requires, old_weight c.args.token.now (f c.args.container.now) (f c.in-Some-get.old.now) (members_by f m.entries.now.entries) m.ensures.value found)

pub overflow_add-result : goal.overflow_add-result
overflow_add-result g c =
    let f = g.T.Node.means in
    let m = c.in_ok-entries in
    let found = looked_up-by f m.ensures.documents m.entries.now.entries refl c.in-Some-get.ensures.value in
    omega (arith, c.requires, c.weight_of.ensures, c.weight_of_name-takes.ensures, c.ranges.limit.fits, old_weight c.args.token.now (f c.args.container.now) (f c.in-Some-get.old.now) (members_by f m.entries.now.entries) m.ensures.value found)

pub returns-in-Some-get : goal.returns-in-Some-get
returns-in-Some-get g c =
    let f = g.T.Node.means in
    let m = c.in_ok-entries in
    let found = looked_up-by f m.ensures.documents m.entries.now.entries refl c.in-Some-get.ensures.value in
    in_map c.args.token.now (f c.args.container.now) (members_by f m.entries.now.entries) _ (c.weight_of_name-takes.result + c.weight_of.result) c.weight_of_name-takes.result m.ensures.value found (omega (arith, c.weight_of.ensures, c.weight_of_name-takes.ensures)) c.weight_of_name-takes.ensures

pub returns-in-None : goal.returns-in-None
returns-in-None g c =
    let f = g.T.Node.means in
    let m = c.in_ok-entries in
    let found = looked_up-by f m.ensures.documents m.entries.now.entries refl c.in-None.ensures.value in
    in_map c.args.token.now (f c.args.container.now) (members_by f m.entries.now.entries) None 0 c.weight_of_name-takes.result m.ensures.value found refl c.weight_of_name-takes.ensures
