-- The lines of the program, each with its newline, and the status that goes with it.
use Rattle.std.specs.Prelude.{ℕ, List, [], ◌∷◌, ◌++◌, codes, Option, None, Some}
use Rattle.mp_tree.specs.Document.{Document}
use Rattle.mp_tree.specs.Look.{Path}
use Rattle.mp_tree.specs.Text.{text as compact}
use Rattle.mp_tree.specs.declared.fault.DocsFault.{DocsFault}
use Rattle.mp_tree.specs.declared.fault.DocsFault.TheVariants.{NotJson, NotWhole}
use Rattle.mp_pointer.specs.declared.fault.PointerFault.{PointerFault}
use Rattle.mp_patch.specs.declared.fault.ApplyFault.{ApplyFault}
use Rattle.mp_patch.specs.declared.fault.FormFault.{FormFault}
use Rattle.mp_merge.specs.declared.fault.ListFault.TheVariants.{NoPatches}
use Rattle.mp_texts.specs.Lines.{apply_line, conflict_text, form_line, list_text, missing, pointer_line}
use Rattle.mp_cli.specs.declared.running.RunFault.{RunFault}
use Rattle.mp_cli.specs.declared.running.RunFault.TheVariants as run_fails

-- ---- the status that the program ends with

-- if the command gives a result
abbrev pub exit_result : ℕ
exit_result = 0

-- if it gives none
abbrev pub exit_no_result : ℕ
exit_no_result = 1

-- if the input or an argument is wrong
abbrev pub exit_refused : ℕ
exit_refused = 2

-- if memory or a stream fails
abbrev pub exit_failed : ℕ
exit_failed = 3

-- ---- the lines

-- the bytes that the program writes, with the newline, and the status that it ends with
pub record Output : Type 0 where
  pub text : List ℕ
  pub status : ℕ

abbrev pub newline : ℕ
newline = 10

-- each line ends with one newline byte
abbrev pub line : List ℕ → ℕ → Output
line s status = record { text = s ++ newline ∷ []; status = status }

-- a result is its compact text
abbrev pub result_line : Document → Output
result_line d = line (compact d) exit_result

abbrev pub wrong_shape : Output
wrong_shape = line (codes "input: wrong shape") exit_refused

-- Out of memory is no error of the bytes: among the answers it has no line.

-- what is wrong with the input
abbrev pub input_fault : DocsFault → Option Output
input_fault NotJson = Some (line (codes "input: not JSON") exit_refused)
input_fault NotWhole = Some (line (codes "input: number not whole") exit_refused)
input_fault DocsFault.NotAnArray = Some wrong_shape
input_fault DocsFault.OutOfMemory = None

-- what is wrong with the spelling of a pointer
abbrev pub spelling_fault : PointerFault → Option Output
spelling_fault PointerFault.OutOfMemory = None
spelling_fault why = Some (line (pointer_line why) exit_refused)

-- a part of a document, if there is one
abbrev pub part_line : Option Document → Output
part_line None = line missing exit_no_result
part_line (Some d) = result_line d

-- what is wrong with the form of a patch
abbrev pub form_fault : FormFault → Option Output
form_fault FormFault.NotAnArray = Some wrong_shape
form_fault FormFault.OutOfMemory = None
form_fault why = Some (line (form_line why) exit_refused)

-- why a patch has no result
abbrev pub apply_fault : ApplyFault → Option Output
apply_fault ApplyFault.OutOfMemory = None
apply_fault why = Some (line (apply_line why) exit_no_result)

-- the two patches by their numbers, and the pointers to all their conflicts
abbrev pub conflict_line : ℕ → ℕ → List Path → Output
conflict_line first second places = line (conflict_text (Some (first, second)) places (Some 0)) exit_no_result

abbrev pub no_patches : Output
no_patches = line (list_text NoPatches) exit_no_result

-- ---- the line for a run that gives no status

-- without the newline
abbrev pub line_of : RunFault → List ℕ
line_of run_fails.ReadFailed = codes "read failed"
line_of run_fails.WriteFailed = codes "write failed"
line_of run_fails.TooLong = codes "input: too long"
line_of run_fails.OutOfMemory = codes "out of memory"

-- 2 if the input is wrong, 3 if memory or a stream fails
abbrev pub status_of : RunFault → ℕ
status_of run_fails.ReadFailed = exit_failed
status_of run_fails.WriteFailed = exit_failed
status_of run_fails.TooLong = exit_refused
status_of run_fails.OutOfMemory = exit_failed
