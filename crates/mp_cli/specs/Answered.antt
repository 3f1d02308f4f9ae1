-- What the program answers to its command and its input bytes.
use Rattle.std.specs.Prelude.{◌≡◌, ℕ, string_bytes, List, [], Some, Result, Ok, Err}
use Rattle.mp_tree.specs.Document.{Document, Items, no_items, item, IsDocument}
use Rattle.mp_tree.specs.Look.{Path}
use Rattle.mp_tree.specs.Text.{documents_in}
use Rattle.mp_tree.specs.declared.fault.DocsFault.{DocsFault}
use Rattle.mp_tree.specs.Elements.{list_of}
use Rattle.mp_pointer.specs.Part.{part}
use Rattle.mp_pointer.specs.Spelling.{Tokens, spell, IsPointerFault}
use Rattle.mp_pointer.specs.declared.fault.PointerFault.{PointerFault}
use Rattle.mp_merge.specs.Application.{in_turn}
use Rattle.mp_cli.specs.Lines.{Output, result_line, wrong_shape, input_fault, spelling_fault, part_line, form_fault}
use Rattle.mp_cli.specs.Lines.{apply_fault, conflict_line, no_patches}
use Rattle.mp_merge.specs.Join.{IsJoin}
use Rattle.mp_merge.specs.Lists.{IsReportedPair}
use Rattle.mp_merge.specs.Outcome.{IsOutcome}
use Rattle.mp_merge.specs.Rewriting.{IsRewriting}
use Rattle.mp_patch.specs.Form.{AreForms, IsFormFault, shapes}
use Rattle.mp_patch.specs.Operation.{Operation}
use Rattle.mp_patch.specs.Run.{Runs, IsApplyFault}
use Rattle.mp_patch.specs.declared.fault.ApplyFault.{ApplyFault}
use Rattle.mp_patch.specs.declared.fault.FormFault.{FormFault}
use Rattle.mp_cli.specs.declared.answers.Answer.{Answer}
use Rattle.mp_cli.specs.declared.command.Command.{Command}
use Rattle.mp_cli.specs.declared.command.Command.TheVariants.{Get, Patch, Merge, Join, Replay, Rewrite}

-- ---- `get`

-- the part that the tokens name, or what is wrong with their spelling
pub data IsPartAnswer (d : Document) (pointer : List ℕ) (a : Output) : Type 0 where
  spelled : (tokens : Tokens) → pointer ≡ spell tokens → a ≡ part_line (part d tokens) → IsPartAnswer d pointer a
  misspelled : (fault : PointerFault) → IsPointerFault fault pointer → spelling_fault fault ≡ Some a → IsPartAnswer d pointer a

-- `get` wants `[document]`
abbrev pub IsGetAnswerTo : List ℕ → Items → Output → Type 0
IsGetAnswerTo pointer (item d no_items) a = IsPartAnswer d pointer a
IsGetAnswerTo pointer inputs a = a ≡ wrong_shape

-- ---- `merge`

-- `merge` wants `[document, patch, ..]`, also with no patch: each patch is applied in turn, with no check of
-- compatibility
abbrev pub merge_answer : Items → Output
merge_answer no_items = wrong_shape
merge_answer (item d ps) = result_line (in_turn d (list_of ps))

-- ---- `patch`

-- if the operations run, the document that they lead to, and else the first that is refused
pub data IsRunAnswer (d : Document) (operations : List Operation) (a : Output) : Type 0 where
  ran : (e : Document) → IsDocument e → Runs d operations e → a ≡ result_line e → IsRunAnswer d operations a
  halted : (fault : ApplyFault) → IsApplyFault fault d operations → apply_fault fault ≡ Some a → IsRunAnswer d operations a

-- the form of all operations is checked before any is applied
pub data IsPatchAnswer (d patch : Document) (a : Output) : Type 0 where
  malformed : (fault : FormFault) → IsFormFault fault patch → form_fault fault ≡ Some a → IsPatchAnswer d patch a
  formed : (operations : List Operation) → AreForms patch operations → IsRunAnswer d operations a
      → IsPatchAnswer d patch a

-- `patch` wants `[document, json patch]`
abbrev pub IsPatchAnswerTo : Items → Output → Type 0
IsPatchAnswerTo (item d (item patch no_items)) a = IsPatchAnswer d patch a
IsPatchAnswerTo inputs a = a ≡ wrong_shape

-- ---- lists of merge patches

-- `join` wants `[patch, ..]`: its join, or why there is none
pub data IsJoinAnswer (patches : List Document) (a : Output) : Type 0 where
  joined : (j : Document) → IsDocument j → IsJoin patches j → a ≡ result_line j → IsJoinAnswer patches a
  none_joined : patches ≡ [] → a ≡ no_patches → IsJoinAnswer patches a
  join_refused : (first second : ℕ) (places : List Path) → IsReportedPair patches first second places
      → a ≡ conflict_line first second places → IsJoinAnswer patches a

-- `replay` wants `[document, patch, ..]`, also with no patch: the outcome, or why there is none
pub data IsReplayAnswer (start : Document) (patches : List Document) (a : Output) : Type 0 where
  replayed : (e : Document) → IsDocument e → IsOutcome start patches e → a ≡ result_line e
      → IsReplayAnswer start patches a
  replay_refused : (first second : ℕ) (places : List Path) → IsReportedPair patches first second places
      → a ≡ conflict_line first second places → IsReplayAnswer start patches a

abbrev pub IsReplayAnswerTo : Items → Output → Type 0
IsReplayAnswerTo no_items a = a ≡ wrong_shape
IsReplayAnswerTo (item d ps) a = IsReplayAnswer d (list_of ps) a

-- ---- `rewrite`

-- the JSON Patch that a merge patch is for the document, as its shapes
pub data IsRewriteAnswer (d patch : Document) (a : Output) : Type 0 where
  rewritten : (operations : List Operation) → IsRewriting d patch operations → a ≡ result_line (shapes operations)
      → IsRewriteAnswer d patch a

-- `rewrite` wants `[document, merge patch]`
abbrev pub IsRewriteAnswerTo : Items → Output → Type 0
IsRewriteAnswerTo (item d (item patch no_items)) a = IsRewriteAnswer d patch a
IsRewriteAnswerTo inputs a = a ≡ wrong_shape

-- ---- all commands

-- the command's answer to the elements of the input array
abbrev pub IsAnswerTo : Command → Items → Output → Type 0
IsAnswerTo (Get pointer) inputs a = IsGetAnswerTo (string_bytes pointer) inputs a
IsAnswerTo Patch inputs a = IsPatchAnswerTo inputs a
IsAnswerTo Merge inputs a = a ≡ merge_answer inputs
IsAnswerTo Join inputs a = IsJoinAnswer (list_of inputs) a
IsAnswerTo Replay inputs a = IsReplayAnswerTo inputs a
IsAnswerTo Rewrite inputs a = IsRewriteAnswerTo inputs a

-- the first check that fails, or else the command's answer
abbrev pub IsChecked : Command → Result Items DocsFault → Output → Type 0
IsChecked command (Err fault) a = input_fault fault ≡ Some a
IsChecked command (Ok inputs) a = IsAnswerTo command inputs a

-- what the program answers to the input bytes
unfoldable pub IsAnswered : Command → List ℕ → Output → Type 0
IsAnswered command input a = IsChecked command (documents_in input) a

-- the text and the status of an answer
abbrev pub answered_by : Answer → Output
answered_by a = record { text = string_bytes a.text; status = a.status }
