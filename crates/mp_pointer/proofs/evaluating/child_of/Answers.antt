use Rattle.std.proofs.Common.{◌≡◌, ◌<◌, ◌^◌, length, option_map, sym, ap, ◌∙◌, arith}
use Rattle.std.specs.List.{slice_get}
use Rattle.std.specs.Option.{option_copied}
use Rattle.mp_tree.specs.View.{items_by}
use Rattle.mp_tree.proofs.Facts.{lent_value, nth-items-by}
use Rattle.mp_pointer.specs.Part.{child}
use Rattle.mp_pointer.proofs.Parts.Borrowed.{no_child}
use Rattle.mp_pointer.proofs.Parts.Children.{no_index_here-by, value_here-by}
use Rattle.mp_pointer.proofs.Tokens.Indices.{child-numeral, item_at}
use Rattle.mp_pointer.proofs.evaluating.child_of.Goals as goal

pub returns-in_err-index_of-in-Some : goal.returns-in_err-index_of-in-Some
returns-in_err-index_of-in-Some g c =
    let token = c.args.token.now in
    let elements = c.in-Some.elements.now in
    let short : length elements.items < 2 ^ 64 = omega (arith, elements.small, elements.ok.0) in
    rw c.from_residual.ensures (sym (ap (child token) c.in-Some.ensures.value ∙ no_index_here-by g.T.Node.means token elements short c.in_err-index_of-in-Some.ensures))

pub returns-in_err-members-in-None : goal.returns-in_err-members-in-None
returns-in_err-members-in-None g c =
    rw c.from_residual-in_err-members-in-None.ensures (sym (no_child c.args.token.now (g.T.Node.means c.args.node.now) c.in-None.ensures.value c.in_err-members-in-None.ensures.value))

pub returns-in_ok-index_of-in-Some : goal.returns-in_ok-index_of-in-Some
returns-in_ok-index_of-in-Some g c =
    let f = g.T.Node.means in
    let token = c.args.token.now in
    let elements = c.in-Some.elements.now in
    let i = c.in_ok-index_of-in-Some.field-0 in
    let read : option_copied c.get.result ≡ slice_get elements.items i = item_at elements.items i c.get.result (rw (← c.deref.ensures.value) c.get.ensures.lookup) in
    lent_value f c.get.result ∙ ap (option_map f) read
    ∙ sym (ap (child token) c.in-Some.ensures.value ∙ child-numeral token i (items_by f elements.items) c.in_ok-index_of-in-Some.ensures ∙ nth-items-by f i elements.items)

pub returns-in_ok-members-in-None : goal.returns-in_ok-members-in-None
returns-in_ok-members-in-None g c =
    let f = g.T.Node.means in
    let token = c.args.token.now in
    let found = c.get-in-None.result in
    let members = c.in_ok-members-in-None.ensures in
    let entries = c.in_ok-members-in-None.field-0.now in
    lent_value f found ∙ sym (ap (child token) members.value ∙ value_here-by f members.documents token entries (option_copied found) c.get-in-None.ensures.value)
