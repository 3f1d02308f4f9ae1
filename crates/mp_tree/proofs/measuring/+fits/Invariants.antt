use Rattle.std.proofs.Common.{◌≤◌, ◌<◌, ℕ, get_or}
use Rattle.std.specs.BTreeMap.{values}
use Rattle.mp_tree.specs.Document.{depth, items_depth}
use Rattle.mp_tree.specs.View.{document, items}
use Rattle.mp_tree.specs.declared.doc.Doc.{Doc}
use Rattle.mp_tree.proofs.Passed.{Passed}
use Rattle.mp_tree.proofs.measuring.+fits.Given as goal

abbrev pub invariant-are_items_within-loop-element : goal.invariant-are_items_within-loop-element
invariant-are_items_within-loop-element l = (k : ℕ) (d : Doc) → k < l.element-index → depth (document (get_or l.element-items k d)) ≤ l.limit

abbrev pub invariant-are_members_within-loop-value : goal.invariant-are_members_within-loop-value
invariant-are_members_within-loop-value l = Passed (values l.entries) l.value-iterator (λ passed. items_depth (items passed) ≤ l.limit)
