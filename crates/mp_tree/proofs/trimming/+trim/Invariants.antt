use Rattle.std.proofs.Common.{◌≡◌, ◌+◌, ◌*◌}
use Rattle.mp_tree.specs.Values.{value_items}
use Rattle.mp_tree.proofs.trimming.+trim.Given as goal

-- the levels that are left
abbrev pub decreases-trim : goal.decreases-trim
decreases-trim l = 3 * l.levels

abbrev pub decreases-trim_items : goal.decreases-trim_items
decreases-trim_items l = 3 * l.levels + 1

abbrev pub decreases-trim_members : goal.decreases-trim_members
decreases-trim_members l = 3 * l.levels + 2

abbrev pub decreases-trim_members-retain : goal.decreases-trim_members-retain
decreases-trim_members-retain l = 3 * l.levels + 1

abbrev pub invariant-trim_items-loop-element : goal.invariant-trim_items-loop-element
invariant-trim_items-loop-element l = value_items l.element-items ≡ value_items l.fn.elements.items
