use Rattle.std.proofs.Common.{◌≡◌, ◌≤◌, length, arith}
use Rattle.mp_patch.proofs.Operations.SingleSteps.{element_inserted-by, element_place-by, no_element_place-by, in_list}
use Rattle.mp_patch.proofs.containers.insert_element.Goals as goal

pub returns-in_default : goal.returns-in_default
returns-in_default g c =
    let given = c.args.elements.now in
    no_element_place-by g.T.Node.means c.args.token.now given.items c.in_default.ensures.0 (λ i is. omega (arith, c.in_default.ensures.1 i is, given.ok.0))

pub returns-then-not-fits : goal.returns-then-not-fits
returns-then-not-fits g c =
    let given = c.args.elements.now in
    let i = c.in-Some.index in
    let long : c.len.result ≡ length given.items = omega (arith, given.ok.0) in
    (element_place-by g.T.Node.means c.args.token.now i given.items (in_list c.args.token.now i c.len.result (length given.items) long c.in-Some.ensures.1) (omega (arith, c.in-Some.ensures.0)), c.if-not-fits.true)

pub returns : goal.returns
returns g c =
    let f = g.T.Node.means in
    let given = c.args.elements.now in
    let i = c.in-Some.index in
    let long : c.len.result ≡ length given.items = omega (arith, given.ok.0) in
    let named = in_list c.args.token.now i c.len.result (length given.items) long c.in-Some.ensures.1 in
    let within : i ≤ length given.items = omega (arith, c.in-Some.ensures.0) in
    (c.if-not-fits.false, element_place-by f c.args.token.now i given.items named within, element_inserted-by f c.args.token.now i given.items c.insert.new.self.items c.args.value named within c.in_ok-insert.ensures.items)
