use Rattle.std.proofs.Common.{◌≡◌, ◌<◌, ◌+◌, ℕ, List, max, length, drop, get_or, sym, ap, ◌∙◌, arith}
use Rattle.std.proofs.lemmas.List.{drop_more}
use Rattle.mp_tree.specs.Document.{Document, depth, items_depth, members_depth}
use Rattle.mp_tree.specs.View.{items_by, members_by}
use Rattle.mp_tree.proofs.Facts.{members_depth-by}
use Rattle.mp_patch.proofs.measuring.+measure.Goals as goal

-- the element that is next, and what is left after it
next_element : {V : Type 0} (f : V → Document) (vs : List V) (i : ℕ) (v : V) → i < length vs → v ≡ get_or vs i v → items_depth (items_by f (drop i vs)) ≡ max (depth (f v)) (items_depth (items_by f (drop (i + 1) vs)))
next_element f vs i v within is = ap (λ ws. items_depth (items_by f ws)) (drop_more vs i v within) ∙ ap (λ w. max (depth (f w)) (items_depth (items_by f (drop (i + 1) vs)))) (sym is)

pub depth_of_items-depth_within-requires : goal.depth_of_items-depth_within-requires
depth_of_items-depth_within-requires g t c κs within =
    let f = g.T.Node.means in
    let given = c.deref-element-items.result.now in
    let left = next_element f given c.loop-element.element-index c.element-item.result c.loop-element-test.true c.element-item.is in
    let all = ap (λ ds. items_depth (items_by f ds)) c.deref-element-items.ensures.value in
    (omega (arith, c.decreases), within)

-- an element is too deep
pub depth_of_items-returns-in_err-depth_within : goal.depth_of_items-returns-in_err-depth_within
depth_of_items-returns-in_err-depth_within g t c =
    let f = g.T.Node.means in
    let given = c.deref-element-items.result.now in
    let left = next_element f given c.loop-element.element-index c.element-item.result c.loop-element-test.true c.element-item.is in
    let all = ap (λ ds. items_depth (items_by f ds)) c.deref-element-items.ensures.value in
    let deep : c.args.limit < items_depth (items_by f c.args.elements.now.items) = omega (arith, c.in_err-depth_within.ensures) in
    rw c.from_residual.ensures deep

pub depth_of_members-depth_within-requires : goal.depth_of_members-depth_within-requires
depth_of_members-depth_within-requires g t c κs within =
    let f = g.T.Node.means in
    let l = c.loop-value in
    let left : items_depth (items_by f l.value-iterator) ≡ max (depth (f c.in-Some.value.now)) (items_depth (items_by f c.next.new.self)) = ap (λ ds. items_depth (items_by f ds)) c.in-Some.ensures.steps in
    let all = members_depth-by f c.args.entries.now.entries c.values-value-items.ensures.ordered in
    (omega (arith, c.decreases), within)

-- a value is too deep
pub depth_of_members-returns-in_err-depth_within : goal.depth_of_members-returns-in_err-depth_within
depth_of_members-returns-in_err-depth_within g t c =
    let f = g.T.Node.means in
    let l = c.loop-value in
    let left : items_depth (items_by f l.value-iterator) ≡ max (depth (f c.in-Some.value.now)) (items_depth (items_by f c.next.new.self)) = ap (λ ds. items_depth (items_by f ds)) c.in-Some.ensures.steps in
    let all = members_depth-by f c.args.entries.now.entries c.values-value-items.ensures.ordered in
    let deep : c.args.limit < members_depth (members_by f c.args.entries.now.entries) = omega (arith, c.in_err-depth_within.ensures) in
    rw c.from_residual.ensures deep

pub depth_of_members-returns : goal.depth_of_members-returns
depth_of_members-returns g t c =
    let f = g.T.Node.means in
    let l = c.loop-value in
    let left : items_depth (items_by f l.value-iterator) ≡ 0 = ap (λ ds. items_depth (items_by f ds)) c.in-None.ensures.steps.0 in
    let all = members_depth-by f c.args.entries.now.entries c.values-value-items.ensures.ordered in
    (omega arith, l.invariant.within)
