use Rattle.std.proofs.Common.{◌-◌, ◌*◌}
use Rattle.mp_pointer.proofs.editing.+edit.Given as goal

-- twice the tokens that are left, and one less where the next of them is looked at
abbrev pub decreases-edit_between : goal.decreases-edit_between
decreases-edit_between g l = 2 * (l.end - l.number)

abbrev pub decreases-edit_element : goal.decreases-edit_element
decreases-edit_element g l = 2 * (l.end - l.number) - 1

abbrev pub decreases-edit_member : goal.decreases-edit_member
decreases-edit_member g l = 2 * (l.end - l.number) - 1
