-- Laws of patches alone. Each is the contract of a function of the module `laws` that runs nothing.
use Rattle.std.specs.Prelude.{◌≡◌, ◌≢◌, ◌≤◌, ◌+◌, ◌⊎◌, ◌<◌, ℕ, suc, List, [], length, take, Some, ⊤}
use Rattle.std.specs.List.{All}
use Rattle.mp_tree.specs.Document.{Document, IsDocument, IsReadable, depth, depth_limit}
use Rattle.mp_tree.specs.declared.doc.Doc.{Doc}
use Rattle.mp_pointer.specs.Part.{part}
use Rattle.mp_pointer.specs.Spelling.{Tokens, IsProperPrefix}
use Rattle.mp_patch.specs.Writable.{IsWritable}
use Rattle.mp_patch.specs.Form.{AreForms, IsFormFault, deepest, shapes}
use Rattle.mp_patch.specs.Operation.{Operation, add, remove, replace, move, copy, test, HaveDocuments}
use Rattle.mp_patch.specs.Refusal.{HasNoPlace, LeavesNoPlace}
use Rattle.mp_patch.specs.Run.{Runs, IsApplyFault, IsRefused, RefusedAt}
use Rattle.mp_patch.specs.View.{operations_of}
use Rattle.mp_patch.specs.Within.{AllowsWeight, RunsWithin, RunsWorking, IsApplyWithinFault, within_fault_of}
use Rattle.mp_patch.specs.Work.{AllowsWork, no_limit}
use Rattle.mp_patch.specs.declared.fault.ApplyFault.{ApplyFault}
use Rattle.mp_patch.specs.declared.fault.ApplyWithinFault.{ApplyWithinFault}
use Rattle.mp_patch.specs.declared.fault.ApplyWithinFault.TheVariants as within_fault
use Rattle.mp_patch.specs.declared.fault.Cause.{Cause}
use Rattle.mp_patch.specs.declared.fault.FormFault.{FormFault}
use Rattle.mp_patch.specs.declared.fault.FormFault.TheVariants.{OutOfMemory}
use Rattle.mp_patch.specs.declared.op.Op.{Op}

-- every list of `Op` is one of these
abbrev pub PatchesHaveDocuments : Type 0
PatchesHaveDocuments = (ops : List (Op Doc)) → HaveDocuments (operations_of ops)

-- when an operation on d is not refused: if what it names is there, and what it adds has a place and fits
pub record TakesOperations (d : Document) : Type 0 where
  pub adds : (t : Tokens) (v : Document)
      → ¬ HasNoPlace d t → length t + depth v ≤ depth_limit → ¬ IsRefused d (add t v)
  pub removes : (t : Tokens) (x : Document) → part d t ≡ Some x → t ≢ [] → ¬ IsRefused d (remove t)
  pub replaces : (t : Tokens) (x v : Document)
      → part d t ≡ Some x → length t + depth v ≤ depth_limit → ¬ IsRefused d (replace t v)
  pub moves : (f t : Tokens) (x : Document) → part d f ≡ Some x → ¬ IsProperPrefix f t → ¬ LeavesNoPlace d f t
      → length t + depth x ≤ depth_limit → ¬ IsRefused d (move f t)
  pub copies : (f t : Tokens) (x : Document) → part d f ≡ Some x → ¬ HasNoPlace d t
      → length t + depth x ≤ depth_limit → ¬ IsRefused d (copy f t)
  pub tests : (t : Tokens) (x : Document) → part d t ≡ Some x → ¬ IsRefused d (test t x)

-- section 4, and so it is on every document
abbrev pub OperationsAreTaken : Type 0
OperationsAreTaken = (d : Document) → TakesOperations d

-- a patch runs from a document to one end alone (RFC 6902 section 5)
abbrev pub HasOneEnd : Type 0
HasOneEnd = (d e f : Document) (operations : List Operation) → IsDocument d → HaveDocuments operations
    → Runs d operations e → Runs d operations f → e ≡ f

-- a patch that runs is not refused
abbrev pub RunsUnrefused : Type 0
RunsUnrefused = (d e : Document) (operations : List Operation) (k : ℕ) (cause : Cause)
    → IsDocument d → HaveDocuments operations → Runs d operations e → ¬ RefusedAt d operations k cause

-- a patch that does not run is refused
abbrev pub RunsOrIsRefused : Type 0
RunsOrIsRefused = (d : Document) (operations : List Operation) → IsDocument d → HaveDocuments operations
    → ((e : Document) × IsDocument e × Runs d operations e)
    ⊎ ((k : ℕ) × (cause : Cause) × RefusedAt d operations k cause)

-- a patch is refused at one operation alone, and by one cause
abbrev pub HasOneRefusal : Type 0
HasOneRefusal = (d : Document) (operations : List Operation) (k n : ℕ) (cause other : Cause)
    → IsDocument d → HaveDocuments operations
    → RefusedAt d operations k cause → RefusedAt d operations n other → (k ≡ n) × (cause ≡ other)

-- a patch takes no document past the depth rule
abbrev pub StaysShallow : Type 0
StaysShallow = (d e : Document) (operations : List Operation) → IsDocument d → HaveDocuments operations
    → Runs d operations e → depth d ≤ depth_limit → depth e ≤ depth_limit

-- a document is a form of one list of operations alone
abbrev pub HasOneReading : Type 0
HasOneReading = (d : Document) (operations others : List Operation)
    → AreForms d operations → AreForms d others → operations ≡ others

-- a form that is a document has documents as its values
abbrev pub FormsHaveDocuments : Type 0
FormsHaveDocuments = (d : Document) (operations : List Operation)
    → IsDocument d → AreForms d operations → HaveDocuments operations

-- the shapes of operations are forms of them
abbrev pub ShapesAreForms : Type 0
ShapesAreForms = (operations : List Operation) → AreForms (shapes operations) operations

-- a document that is a form of operations has no error
abbrev pub FormsHaveNoFault : Type 0
FormsHaveNoFault = (d : Document) (operations : List Operation) (fault : FormFault)
    → AreForms d operations → IsFormFault fault d → fault ≡ OutOfMemory

-- a document is a form of operations, or has an error
abbrev pub IsFormOrFaulty : Type 0
IsFormOrFaulty = (d : Document)
    → ((operations : List Operation) × AreForms d operations)
    ⊎ ((fault : FormFault) × (fault ≢ OutOfMemory) × IsFormFault fault d)

-- and has one error alone; out of memory is none of a document
abbrev pub HasOneFormFault : Type 0
HasOneFormFault = (d : Document) (fault other : FormFault) → fault ≢ OutOfMemory → other ≢ OutOfMemory
    → IsFormFault fault d → IsFormFault other d → fault ≡ other

-- operations that can be written have a document that can be read, if no value is deeper than can be read
abbrev pub ShapesAreReadable : Type 0
ShapesAreReadable = (operations : List Operation)
    → All IsWritable operations → 2 + deepest operations ≤ depth_limit → IsReadable (shapes operations)

-- the operations of a form that can be read can be written
abbrev pub FormsAreWritable : Type 0
FormsAreWritable = (form : Document) (operations : List Operation)
    → IsReadable form → AreForms form operations → All IsWritable operations

-- and operations that can be written lead from what can be read to what can be read
abbrev pub RunsAreReadable : Type 0
RunsAreReadable = (d e : Document) (operations : List Operation)
    → IsReadable d → All IsWritable operations → Runs d operations e → IsReadable e

-- a limit allows the weight of each result on the way, whatever the first document weighs
abbrev pub StaysWithin : ℕ → Document → List Operation → Type 0
StaysWithin limit d operations = (k : ℕ) (m : Document)
    → k < length operations → Runs d (take (suc k) operations) m → AllowsWeight limit m

-- a limit allows the work of the operations together
abbrev pub WorksWithin : ℕ → Document → List Operation → Type 0
WorksWithin limit d operations = (e : Document) (w : ℕ) → RunsWorking (λ m. ⊤) d operations e w → AllowsWork limit w

-- a limit changes nothing but that a patch ends at the first result over it, or by too much work
pub record LimitsChangeNothing (limit : ℕ) (d : Document) (operations : List Operation) : Type 0 where
  pub runs : (e : Document) → Runs d operations e → StaysWithin limit d operations → WorksWithin limit d operations
      → RunsWithin limit d operations e
  pub is_run : (e : Document) → RunsWithin limit d operations e → Runs d operations e
  pub is_fault : (fault : ApplyFault)
      → IsApplyWithinFault limit (within_fault_of fault) d operations → IsApplyFault fault d operations
  -- and the limit that bounds nothing ends none
  pub unlimited : (k : ℕ) → limit ≡ no_limit → ¬ IsApplyWithinFault limit (within_fault.TooLarge k) d operations

-- and so it is for every patch
abbrev pub LimitsChangeNoAnswer : Type 0
LimitsChangeNoAnswer = (limit : ℕ) (d : Document) (operations : List Operation) → LimitsChangeNothing limit d operations

-- a patch that runs within a limit is stopped only if memory runs out
abbrev pub RunsAreNotStopped : Type 0
RunsAreNotStopped = (limit : ℕ) (d e : Document) (operations : List Operation) (fault : ApplyWithinFault)
    → IsDocument d → HaveDocuments operations → RunsWithin limit d operations e
    → IsApplyWithinFault limit fault d operations → fault ≡ within_fault.OutOfMemory

-- it is stopped at one operation alone, and for one reason
abbrev pub HasOneStopWithin : Type 0
HasOneStopWithin = (limit : ℕ) (d : Document) (operations : List Operation) (fault other : ApplyWithinFault)
    → IsDocument d → HaveDocuments operations
    → fault ≢ within_fault.OutOfMemory → other ≢ within_fault.OutOfMemory
    → IsApplyWithinFault limit fault d operations → IsApplyWithinFault limit other d operations → fault ≡ other

-- and a patch that does not run within it is stopped
abbrev pub RunsWithinOrStops : Type 0
RunsWithinOrStops = (limit : ℕ) (d : Document) (operations : List Operation) → IsDocument d → HaveDocuments operations
    → ((e : Document) × IsDocument e × RunsWithin limit d operations e)
    ⊎ ((fault : ApplyWithinFault) × (fault ≢ within_fault.OutOfMemory)
    × IsApplyWithinFault limit fault d operations)
