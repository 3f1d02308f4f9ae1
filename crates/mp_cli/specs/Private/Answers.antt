-- What a call that makes an answer gives. Only private clauses cite it.
use Rattle.std.specs.Prelude.{◌≡◌, IfOk, Option, None, Some, Result}
use Rattle.std.specs.declared.alloc.AllocError.{AllocError}
use Rattle.mp_merge.specs.declared.comparing.Conflicts.{Conflicts}
use Rattle.mp_merge.specs.declared.fault.ListFault.{ListFault}
use Rattle.mp_merge.specs.declared.fault.ListFault.TheVariants.{NoPatches, ConflictOf}
use Rattle.mp_cli.specs.Answered.{answered_by}
use Rattle.mp_cli.specs.Lines.{Output, conflict_line, no_patches}
use Rattle.mp_cli.specs.declared.answers.Answer.{Answer}

-- why a list has no join, or can't be replayed
abbrev pub list_fault : ListFault Conflicts → Option Output
list_fault NoPatches = Some no_patches
list_fault (ConflictOf first second conflicts) = Some (conflict_line first second conflicts.places.items)
list_fault ListFault.OutOfMemory = None

-- the call gives that answer
abbrev pub Gives : Result Answer AllocError → Output → Type 0
Gives result expected = IfOk result (λ a. answered_by a ≡ expected)

-- it gives the line of an error, if that has one
abbrev pub GivesLine : Result Answer AllocError → Option Output → Type 0
GivesLine result expected = IfOk result (λ a. expected ≡ Some (answered_by a))
