-- Laws of the program. Each is the contract of a function of the module `laws` that runs nothing.
use Rattle.std.specs.Prelude.{◌≡◌, ◌+◌, ◌≤◌, ℕ, List, [], ◌∷◌, Some, Ok, true, codes}
use Rattle.std.specs.List.{Contains}
use Rattle.clap.specs.Words.{Text, takes}
use Rattle.mp_tree.specs.Arrays.{IsArrayOf}
use Rattle.mp_tree.specs.Document.{Document, Items, no_items, item, depth_limit}
use Rattle.mp_tree.specs.Elements.{list_of}
use Rattle.mp_tree.specs.Look.{Path}
use Rattle.mp_tree.specs.Text.{documents_in, text as compact}
use Rattle.mp_pointer.specs.Spelling.{Tokens, spell}
use Rattle.mp_patch.specs.Form.{deepest}
use Rattle.mp_patch.specs.Operation.{Operation}
use Rattle.mp_merge.specs.Clash.{Clash}
use Rattle.mp_merge.specs.Lists.{IsReportedPair}
use Rattle.mp_merge.specs.Replicas.{AreReplicas}
use Rattle.mp_merge.specs.Rewriting.{IsRewriting}
use Rattle.mp_cli.specs.Answered.{IsAnswered}
use Rattle.mp_cli.specs.Lines.{Output, conflict_line, line, exit_no_result, exit_result}
use Rattle.mp_cli.specs.CommandLine.{asked_for, command_line, pointer_given}
use Rattle.mp_cli.specs.declared.command.Command.{Command}
use Rattle.mp_cli.specs.declared.command.Command.TheVariants.{Patch, Merge, Join, Replay, Rewrite}

-- a command and its input bytes have an answer
abbrev pub AnswerExists : Type 0
AnswerExists = (command : Command) (input : List ℕ) → (a : Output) × IsAnswered command input a

-- and one alone: its bytes and its status are a function of them
abbrev pub HasOneAnswer : Type 0
HasOneAnswer = (command : Command) (input : List ℕ) (a b : Output) → IsAnswered command input a
    → IsAnswered command input b → a ≡ b

-- the command line takes the arguments, the program's name first, and finds this subcommand in them
abbrev pub Takes : List Text → Text → Type 0
Takes words name = (takes command_line words ≡ true) × (asked_for words ≡ Some name)

-- `get` with its argument, which is found
abbrev pub TakesPointer : Text → Type 0
TakesPointer pointer =
    let words = codes "mergejoin" ∷ codes "get" ∷ pointer ∷ [] in
    Takes words (codes "get") × (pointer_given words ≡ Some pointer)

-- the arguments of each of the six commands are taken, and `get` with the spelling of every pointer: so `command_of`
-- gives the command, unless memory runs out
abbrev pub TakesEachCommand : Type 0
TakesEachCommand =
    ((t : Tokens) → TakesPointer (spell t))
    × Takes (codes "mergejoin" ∷ codes "patch" ∷ []) (codes "patch")
    × Takes (codes "mergejoin" ∷ codes "merge" ∷ []) (codes "merge")
    × Takes (codes "mergejoin" ∷ codes "join" ∷ []) (codes "join")
    × Takes (codes "mergejoin" ∷ codes "replay" ∷ []) (codes "replay")
    × Takes (codes "mergejoin" ∷ codes "rewrite" ∷ []) (codes "rewrite")

-- ---- from bytes to bytes

-- two inputs are one start, followed by lists with the same members, at least one, no two of which clash
pub record AreReplicaInputs (here there : List ℕ) : Type 0 where
  pub start : Document
  pub ps : Items
  pub qs : Items
  pub reads_here : documents_in here ≡ Ok (item start ps)
  pub reads_there : documents_in there ≡ Ok (item start qs)
  pub replicas : AreReplicas (list_of ps) (list_of qs)

-- every answer of `replay` to the one is every answer to the other
abbrev pub ReplicasPrintTheSame : Type 0
ReplicasPrintTheSame = (here there : List ℕ) (a b : Output) → AreReplicaInputs here there
    → IsAnswered Replay here a → IsAnswered Replay there b → (a ≡ b) × (a.status ≡ exit_result)

-- and so it is with `join` and the lists alone
abbrev pub JoinsPrintTheSame : Type 0
JoinsPrintTheSame = (here there : List ℕ) (ps qs : Items) (a b : Output)
    → documents_in here ≡ Ok ps → documents_in there ≡ Ok qs → AreReplicas (list_of ps) (list_of qs)
    → IsAnswered Join here a → IsAnswered Join there b → (a ≡ b) × (a.status ≡ exit_result)

-- the answer is the line of the pair that is reported of the patches
pub record ReportsPair (patches : List Document) (a : Output) : Type 0 where
  pub first : ℕ
  pub second : ℕ
  pub places : List Path
  pub reported : IsReportedPair patches first second places
  pub is : a ≡ conflict_line first second places

-- two of the patches clash
abbrev pub HaveAClash : List Document → Type 0
HaveAClash patches = (p : Document) × (q : Document) × (w : Path) × Contains patches p × Contains patches q
    × Clash p q w

-- if two members clash, no answer of `replay` is a document
abbrev pub ClashesAreReported : Type 0
ClashesAreReported = (input : List ℕ) (start : Document) (ps : Items) (a : Output)
    → documents_in input ≡ Ok (item start ps) → HaveAClash (list_of ps)
    → IsAnswered Replay input a → ReportsPair (list_of ps) a × (a.status ≡ exit_no_result)

-- nor any of `join`
abbrev pub JoinReportsClashes : Type 0
JoinReportsClashes = (input : List ℕ) (ps : Items) (a : Output)
    → documents_in input ≡ Ok ps → HaveAClash (list_of ps)
    → IsAnswered Join input a → ReportsPair (list_of ps) a × (a.status ≡ exit_no_result)

-- if `join` answers a line, that line in the list's place, after the start's text, is answered by `merge` and by
-- `replay` with what `replay` answers to the start and the list
abbrev pub JoinPrintedIsRead : Type 0
JoinPrintedIsRead = (input patches joined printed : List ℕ) (start : Document) (ps : Items) (a b c : Output)
    → documents_in input ≡ Ok (item start ps) → documents_in patches ≡ Ok ps
    → IsAnswered Join patches (line printed exit_result) → IsArrayOf (compact start ∷ printed ∷ []) joined
    → IsAnswered Replay input a → IsAnswered Merge joined b → IsAnswered Replay joined c → (b ≡ a) × (c ≡ a)

-- if `rewrite` answers a line, that line in the patch's place is answered by `patch` with what `merge` answers to
-- the document and the patch, where the values of the rewriting allow its two levels
abbrev pub RewritingPrintedIsRead : Type 0
RewritingPrintedIsRead =
    (input rewritten printed : List ℕ) (d p : Document) (operations : List Operation) (a b : Output)
    → documents_in input ≡ Ok (item d (item p no_items)) → IsAnswered Rewrite input (line printed exit_result)
    → IsRewriting d p operations → 2 + deepest operations ≤ depth_limit
    → IsArrayOf (compact d ∷ printed ∷ []) rewritten
    → IsAnswered Merge input a → IsAnswered Patch rewritten b → b ≡ a
