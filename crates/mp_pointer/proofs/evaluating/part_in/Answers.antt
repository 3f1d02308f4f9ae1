use Rattle.std.proofs.Common.{◌≡◌, ◌+◌, Some, None, take, option_and_then, sym, ap, ◌∙◌}
use Rattle.std.specs.List.{slice_get, slice_range}
use Rattle.std.specs.Option.{option_copied}
use Rattle.mp_pointer.specs.Part.{child, part}
use Rattle.mp_pointer.proofs.Changes.Edited.{slice_range-more, slice_range-none, from_first}
use Rattle.mp_pointer.proofs.evaluating.part_in.Goals as goal

pub loop-number-init : goal.loop-number-init
loop-number-init g c = ap (part (g.T.Node.means c.args.node.now)) (sym (from_first c.args.pointer.now c.args.count))

pub returns-in_err-target : goal.returns-in_err-target
returns-in_err-target g c =
    let t = c.args.pointer.now in
    let i = c.loop-number.number in
    let token = c.unwrap.result.now in
    let here : slice_get t i ≡ Some token = sym c.token.ensures ∙ ap option_copied c.unwrap.ensures in
    let none : None ≡ child token (g.T.Node.means c.loop-number.target.now) = c.in_err-target.ensures in
    rw c.from_residual.ensures (sym (c.loop-number.invariant ∙ ap (part (g.T.Node.means c.loop-number.target.now)) (slice_range-more t i c.args.count token here c.loop-number-test.true) ∙ ap (option_and_then (λ e. part e (slice_range t (i + 1) c.args.count))) (sym none)))

pub loop-number-preserved : goal.loop-number-preserved
loop-number-preserved g c =
    let t = c.args.pointer.now in
    let i = c.loop-number.number in
    let token = c.unwrap.result.now in
    let here : slice_get t i ≡ Some token = sym c.token.ensures ∙ ap option_copied c.unwrap.ensures in
    let there : Some (g.T.Node.means c.in_ok-target.target.now) ≡ child token (g.T.Node.means c.loop-number.target.now) = c.in_ok-target.ensures in
    c.loop-number.invariant ∙ ap (part (g.T.Node.means c.loop-number.target.now)) (slice_range-more t i c.args.count token here c.loop-number-test.true) ∙ ap (option_and_then (λ e. part e (slice_range t (i + 1) c.args.count))) (sym there)
