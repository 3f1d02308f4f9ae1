use Rattle.std.proofs.Common.{◌≡◌, ◌≤◌, ◌<◌, ◌+◌, ◌++◌, ◌∷◌, [], None, get_or, sym, ap, ◌∙◌, subst, arith}
use Rattle.std.specs.BTreeMap.{values}
use Rattle.serde_json.specs.View.{items_view, members_view}
use Rattle.mp_tree.specs.Document.{depth, items_depth, members_depth}
use Rattle.mp_tree.specs.Private.Entries.{value_members}
use Rattle.mp_tree.specs.Private.Readings.{IsReading}
use Rattle.mp_tree.specs.Text.{items_from_data, members_from_data}
use Rattle.mp_tree.specs.Values.{value_document, value_items}
use Rattle.mp_tree.proofs.Documents.Depths.{item_depth-by, items_depth_from_each-by, items_depth-append-by, members_depth-by}
use Rattle.mp_tree.proofs.Passed.{Passed, Passed-next, Passed-step, Passed-end}
use Rattle.mp_tree.proofs.Texts.FromData.{from_value}
use Rattle.mp_tree.proofs.Valued.Wholes.{IsRead, AreShallow, each_more, IsSoFar, IsSoFar-weaker, AreRead-push, items_read, items_unread, members_read, members_unread, read_so_far, reading_of_object}
use Rattle.mp_tree.proofs.value_walks.+reading.Goals as goal
use Rattle.mp_tree.proofs.value_walks.+reading.Goals.{items_reading-in-Fits, items_reading-in-TooDeep}

pub items_reading-returns-in-NotWhole : goal.items_reading-returns-in-NotWhole
items_reading-returns-in-NotWhole t c =
    let given = c.deref-value-items.result.now in
    let v = c.value-item.result in
    let none : from_value v ≡ None = c.in-NotWhole.ensures in
    ap (λ vs. items_from_data (items_view vs)) (sym c.deref-value-items.ensures.value) ∙ items_unread given c.loop-value.value-index v c.loop-value-test.true (ap from_value (sym c.value-item.is) ∙ none)

pub items_reading-loop-value-preserved : goal.items_reading-loop-value-preserved
items_reading-loop-value-preserved t c =
    let l = c.loop-value in
    let given = c.deref-value-items.result.now in
    let v = c.value-item.result in
    let before = l.invariant.are_read in
    elim c.match-reading_of.branch [
      | items_reading-in-Fits w ↦
          let is : IsRead v = w.in-Fits.ensures.0 in
          let here : depth (value_document v) ≤ c.args.limit = w.in-Fits.ensures.1 in
          let grown = IsSoFar-weaker l.reading (λ shallow. each_more (λ w. depth (value_document w) ≤ c.args.limit) given l.value-index v shallow c.loop-value-test.true c.value-item.is here) (λ deep. deep) l.invariant.so_far in
          record { are_read = each_more IsRead given l.value-index v before c.loop-value-test.true c.value-item.is is; so_far = subst (λ r. IsSoFar r (AreShallow (l.value-index + 1) given c.args.limit) (c.args.limit < items_depth (value_items given))) (sym w.reading-is) grown }
      | items_reading-in-TooDeep w ↦
          let is : IsRead v = w.in-TooDeep.ensures.0 in
          let here : c.args.limit < depth (value_document v) = w.in-TooDeep.ensures.1 in
          let part : depth (value_document (get_or given l.value-index v)) ≤ items_depth (value_items given) = item_depth-by value_document given l.value-index v c.loop-value-test.true in
          let same : depth (value_document v) ≡ depth (value_document (get_or given l.value-index v)) = ap (λ e. depth (value_document e)) c.value-item.is in
          let deep : c.args.limit < items_depth (value_items given) = omega arith in
          record { are_read = each_more IsRead given l.value-index v before c.loop-value-test.true c.value-item.is is; so_far = subst (λ r. IsSoFar r (AreShallow (l.value-index + 1) given c.args.limit) (c.args.limit < items_depth (value_items given))) (sym w.reading-is) deep }
    ]

pub items_reading-returns : goal.items_reading-returns
items_reading-returns t c =
    let l = c.loop-value in
    let given = c.deref-value-items.result.now in
    let read = items_read given (λ k d below. l.invariant.are_read k d (omega arith)) in
    let so_far = IsSoFar-weaker l.reading (λ shallow. items_depth_from_each-by value_document given c.args.limit (λ k d below. shallow k d (omega arith))) (λ deep. deep) l.invariant.so_far in
    subst (λ vs. IsReading l.reading (items_from_data (items_view vs)) (value_items vs) (items_depth (value_items vs)) c.args.limit) c.deref-value-items.ensures.value (read_so_far _ _ l.reading read so_far)

pub members_reading-loop-value-preserved-in-Fits : goal.members_reading-loop-value-preserved-in-Fits
members_reading-loop-value-preserved-in-Fits t c =
    let l = c.loop-value in
    let v = c.in-Some.value.now in
    let is : IsRead v = c.in-Fits.ensures.0 in
    let here : depth (value_document v) ≤ c.args.limit = c.in-Fits.ensures.1 in
    let step : (p : Passed (values c.args.values.now) l.value-iterator (λ passed. items_depth (value_items passed) ≤ c.args.limit)) → items_depth (value_items (p.passed ++ v ∷ [])) ≤ c.args.limit
    → Passed (values c.args.values.now) c.next.new.self (λ passed. items_depth (value_items passed) ≤ c.args.limit) = λ p holds. Passed-step p c.in-Some.ensures.steps holds in
    let one_more = λ (p : Passed (values c.args.values.now) l.value-iterator (λ passed. items_depth (value_items passed) ≤ c.args.limit)).
    let both = items_depth-append-by value_document p.passed (v ∷ []) in
    let before = p.holds in
    step p (omega arith) in
    record {
      are_read = Passed-step l.invariant.are_read c.in-Some.ensures.steps (AreRead-push l.invariant.are_read.passed v l.invariant.are_read.holds is);
      so_far = IsSoFar-weaker l.reading one_more (λ deep. deep) l.invariant.so_far;
    }

pub members_reading-loop-value-preserved : goal.members_reading-loop-value-preserved
members_reading-loop-value-preserved t c =
    let l = c.loop-value in
    let v = c.in-Some.value.now in
    let is : IsRead v = c.in-TooDeep.ensures.0 in
    let here : c.args.limit < depth (value_document v) = c.in-TooDeep.ensures.1 in
    let all = Passed-next l.invariant.are_read c.in-Some.ensures.steps in
    let among : items_depth (value_items (values c.args.values.now)) ≡ _ = ap (λ ds. items_depth (value_items ds)) all ∙ items_depth-append-by value_document l.invariant.are_read.passed (v ∷ c.next.new.self) in
    let whole = members_depth-by value_document c.args.values.now.entries c.values-value-items.ensures.ordered in
    record {
      are_read = Passed-step l.invariant.are_read c.in-Some.ensures.steps (AreRead-push l.invariant.are_read.passed v l.invariant.are_read.holds is);
      so_far = omega arith;
    }

pub members_reading-returns-in-NotWhole : goal.members_reading-returns-in-NotWhole
members_reading-returns-in-NotWhole t c =
    let passed = c.loop-value.invariant.are_read in
    members_unread c.args.values.now.entries passed.passed c.in-Some.value.now c.next.new.self (Passed-next passed c.in-Some.ensures.steps) c.in-NotWhole.ensures

pub members_reading-returns : goal.members_reading-returns
members_reading-returns t c =
    let l = c.loop-value in
    let es = c.args.values.now.entries in
    let over = c.in-None.ensures.steps.0 in
    let whole = members_depth-by value_document es c.values-value-items.ensures.ordered in
    let within : Passed (values c.args.values.now) l.value-iterator (λ passed. items_depth (value_items passed) ≤ c.args.limit) → members_depth (value_members es) ≤ c.args.limit = λ p. let all = Passed-end p over in omega arith in
    let so_far = IsSoFar-weaker l.reading within (λ deep. deep) l.invariant.so_far in
    read_so_far _ _ l.reading (members_read es (Passed-end l.invariant.are_read over)) so_far

pub reading_of-returns-in-Object : goal.reading_of-returns-in-Object
reading_of-returns-in-Object t c =
    let parts = subst (λ n. IsReading c.members_reading.result (members_from_data (members_view c.in-Object.values.entries)) (value_members c.in-Object.values.entries) (members_depth (value_members c.in-Object.values.entries)) n) c.saturating_sub-in-Object.ensures c.members_reading.ensures in
    let around = reading_of_object c.members_reading.result c.args.limit c.in-Object.values c.in-Object.is parts in
    subst (λ r. IsReading r (from_value c.args.value.now) (value_document c.args.value.now) (depth (value_document c.args.value.now)) c.args.limit) (sym c.around-in-Object.ensures) around
