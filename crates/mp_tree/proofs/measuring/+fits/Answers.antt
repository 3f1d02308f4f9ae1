use Rattle.std.proofs.Common.{◌≡◌, ◌≤◌, [], ◌∷◌, get_or, suc, ap, ◌∙◌, rules, arith}
use Rattle.std.specs.BTreeMap.{values}
use Rattle.mp_tree.specs.Document.{depth, object, items_depth, members_depth}
use Rattle.mp_tree.specs.View.{document, items}
use Rattle.mp_tree.specs.Private.Entries.{members}
use Rattle.mp_tree.proofs.Documents.Depths.{items_depth_from_each-by, item_depth-by, items_depth-append-by, members_depth-by}
use Rattle.mp_tree.proofs.Documents.Meaning.{document-Members}
use Rattle.mp_tree.proofs.Passed.{Passed-next, Passed-step, Passed-end}
use Rattle.mp_tree.proofs.measuring.+fits.Goals as goal

pub are_items_within-returns-then-not-is_within : goal.are_items_within-returns-then-not-is_within
are_items_within-returns-then-not-is_within t c =
    let given = c.deref-element-items.result.now in
    let i = c.loop-element.element-index in
    let d = c.element-item.result in
    let part : depth (document (get_or given i d)) ≤ items_depth (items given) = item_depth-by document given i d c.loop-element-test.true in
    let same : depth (document d) ≡ depth (document (get_or given i d)) = ap (λ e. depth (document e)) c.element-item.is in
    let whole : items_depth (items given) ≡ items_depth (items c.args.elements.now.items) = ap (λ ds. items_depth (items ds)) c.deref-element-items.ensures.value in
    (λ never. absurd (cc), λ shallow_document. let found = c.is_within.ensures.1 (omega arith) in absurd (cc))

pub are_items_within-returns : goal.are_items_within-returns
are_items_within-returns t c =
    let given = c.deref-element-items.result.now in
    let shallow_document : items_depth (items given) ≤ c.args.limit = items_depth_from_each-by document given c.args.limit (λ k d below. c.loop-element.invariant k d (omega arith)) in
    let whole : items_depth (items given) ≡ items_depth (items c.args.elements.now.items) = ap (λ ds. items_depth (items ds)) c.deref-element-items.ensures.value in
    (λ yes. omega arith, λ known. search rules)

pub are_members_within-returns-then-not-is_within : goal.are_members_within-returns-then-not-is_within
are_members_within-returns-then-not-is_within t c =
    let l = c.loop-value in
    let all = Passed-next l.invariant c.in-Some.ensures.steps in
    let deep : items_depth (items (values c.args.entries.now)) ≡ _ = ap (λ ds. items_depth (items ds)) all ∙ items_depth-append-by document l.invariant.passed (c.in-Some.value.now ∷ c.next.new.self) in
    let whole = members_depth-by document c.args.entries.now.entries c.values-value-items.ensures.ordered in
    (λ never. absurd (cc), λ shallow_document. let found = c.is_within.ensures.1 (omega arith) in absurd (cc))

pub are_members_within-loop-value-preserved : goal.are_members_within-loop-value-preserved
are_members_within-loop-value-preserved t c =
    let l = c.loop-value in
    let d = c.in-Some.value.now in
    let here : depth (document d) ≤ c.args.limit = c.is_within.ensures.0 (search rules) in
    let both = items_depth-append-by document l.invariant.passed (d ∷ []) in
    let before = l.invariant.holds in
    Passed-step l.invariant c.in-Some.ensures.steps (omega arith)

pub are_members_within-returns : goal.are_members_within-returns
are_members_within-returns t c =
    let within = Passed-end c.loop-value.invariant c.in-None.ensures.steps.0 in
    let whole = members_depth-by document c.args.entries.now.entries c.values-value-items.ensures.ordered in
    (λ yes. omega arith, λ known. search rules)

pub is_within-returns-then-limit-gt0-2 : goal.is_within-returns-then-limit-gt0-2
is_within-returns-then-limit-gt0-2 t c =
    let entries = c.in-Members.entries in
    let is : document c.args.doc.now ≡ object (members entries.entries) = ap document c.in-Members.is ∙ document-Members entries in
    let deep : depth (document c.args.doc.now) ≡ suc (members_depth (members entries.entries)) = ap depth is in
    let limit = c.if-limit-gt0-2.true in
    (λ yes. let within = c.are_members_within.ensures.0 yes in omega arith, λ shallow_document. c.are_members_within.ensures.1 (omega arith))
