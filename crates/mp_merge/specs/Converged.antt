-- What `converge` gives of any two lists of patches, and which of its calls is the first to refuse.
use Rattle.std.specs.Prelude.{◌≡◌, ◌⊎◌, ℕ, List, [], Some, ⊤}
use Rattle.mp_tree.specs.Document.{Document, IsDocument}
use Rattle.mp_tree.specs.View.{document}
use Rattle.mp_patch.specs.Operation.{Operation}
use Rattle.mp_patch.specs.Run.{Runs, RefusedAt}
use Rattle.mp_patch.specs.View.{operations_of}
use Rattle.mp_patch.specs.declared.fault.Cause.{Cause}
use Rattle.mp_merge.specs.Application.{merge_patch}
use Rattle.mp_merge.specs.Join.{IsJoin}
use Rattle.mp_merge.specs.Lists.{PairwiseCompatible, IsReportedPair}
use Rattle.mp_merge.specs.Outcome.{IsOutcome}
use Rattle.mp_merge.specs.Rewriting.{IsRewriting}
use Rattle.mp_merge.specs.declared.converging.Converged.{Converged}
use Rattle.mp_merge.specs.declared.fault.ConvergeFault.{ConvergeFault}
use Rattle.mp_merge.specs.declared.fault.ConvergeFault.TheVariants.{Lists, Patch, OutOfMemory}
use Rattle.mp_merge.specs.declared.fault.ListFault.TheVariants.{NoPatches, ConflictOf}
use Rattle.mp_merge.specs.declared.fault.ListFault.{ListFault}

-- each field is what its name says of the start and of the patches that the one and the other received
pub record IsConverged (start : Document) (here there : List Document) (c : Converged) : Type 0 where
  pub replayed_here : IsOutcome start here (document c.here)
  pub replayed_there : IsOutcome start there (document c.there)
  pub joined_here : IsJoin here (document c.joined_here)
  pub joined_there : IsJoin there (document c.joined_there)
  pub merged : document c.merged ≡ merge_patch (Some start) (document c.joined_here)
  pub edits : IsRewriting start (document c.joined_here) (operations_of c.edits)
  pub patched : Runs start (operations_of c.edits) (document c.patched)

-- both lists have a join, and the rewriting of the first is refused at this operation
pub record IsRewritingRefused (start : Document) (here there : List Document) (op : ℕ) (cause : Cause) : Type 0 where
  pub joined : Document
  pub joined_is_document : IsDocument joined
  pub joined_here : IsJoin here joined
  pub other : Document
  pub other_is_document : IsDocument other
  pub joined_there : IsJoin there other
  pub operations : List Operation
  pub edits : IsRewriting start joined operations
  pub refused : RefusedAt start operations op cause

-- Why there is no result: two patches of the first list clash, or of the second if those of the first do not; a
-- list is empty if none clash; the rewriting is refused if both have a join. Out of memory says nothing.
abbrev pub IsConvergeFault : ConvergeFault → Document → List Document → List Document → Type 0
IsConvergeFault (Lists (ConflictOf first second places)) start here there =
    IsReportedPair here first second places.items
    ⊎ (PairwiseCompatible here × IsReportedPair there first second places.items)
IsConvergeFault (Lists NoPatches) start here there =
    PairwiseCompatible here × PairwiseCompatible there × ((here ≡ []) ⊎ (there ≡ []))
IsConvergeFault (Lists ListFault.OutOfMemory) start here there = ⊥
IsConvergeFault (Patch op cause) start here there = IsRewritingRefused start here there op cause
IsConvergeFault OutOfMemory start here there = ⊤
