-- What replicas of one document come to that receive the same merge patches, in one statement.
use Rattle.std.specs.Prelude.{◌≡◌, ◌≢◌, ◌≤◌, ℕ, List, [], Some, Vec}
use Rattle.std.specs.declared.alloc.Global.{Global}
use Rattle.std.specs.List.{All}
use Rattle.mp_tree.specs.Document.{Document, IsDocument, depth, depth_limit}
use Rattle.mp_patch.specs.Operation.{Operation}
use Rattle.mp_patch.specs.Run.{Runs, RefusedAt}
use Rattle.mp_patch.specs.declared.fault.Cause.{Cause}
use Rattle.mp_merge.specs.Application.{merge_patch, in_turn}
use Rattle.mp_merge.specs.Join.{IsJoin}
use Rattle.mp_merge.specs.Lists.{HaveSameMembers, PairwiseCompatible, AreNoDeeper, IsJoinAllFault, IsReplayFault}
use Rattle.mp_merge.specs.Outcome.{IsOutcome}
use Rattle.mp_merge.specs.Rewriting.{IsRewriting}
use Rattle.mp_pointer.specs.declared.pointer.Pointer.{Pointer}
use Rattle.mp_merge.specs.declared.fault.ListFault.{ListFault}
use Rattle.mp_merge.specs.declared.fault.ListFault.TheVariants.{OutOfMemory}

-- a replica that received these patches is not refused, and comes to the end by the join that all have
pub record ReachesEnd (start joined end : Document) (received : List Document) : Type 0 where
  -- neither for their join nor for their replay is there any error but out of memory
  pub joins : (fault : ListFault (Vec Pointer Global)) → IsJoinAllFault fault received → fault ≡ OutOfMemory
  pub replays : (fault : ListFault (Vec Pointer Global)) → IsReplayFault fault received → fault ≡ OutOfMemory
  pub is_join : IsJoin received joined
  pub one_join : (j : Document) → IsDocument j → IsJoin received j → j ≡ joined
  pub is_outcome : IsOutcome start received end
  pub one_outcome : (e : Document) → IsDocument e → IsOutcome start received e → e ≡ end
  -- a replica that applies each patch as it arrives ends with it too
  pub each_in_turn : in_turn start received ≡ end

-- a JSON Patch that is not refused and leads from the start to this end alone
pub record LeadsTo (start end : Document) (operations : List Operation) : Type 0 where
  pub runs : Runs start operations end
  pub unrefused : (k : ℕ) (cause : Cause) → ¬ RefusedAt start operations k cause
  pub alone : (e : Document) → Runs start operations e → e ≡ end

-- the patches have a join, and all come to one application of it to the start
pub record Converge (start : Document) (patches : List Document) : Type 0 where
  pub joined : Document
  pub is_document : IsDocument joined
  pub end_is_document : IsDocument (merge_patch (Some start) joined)
  -- a replica may receive the patches in any order and with any repeats
  pub reached : (received : List Document) → HaveSameMembers patches received
      → ReachesEnd start joined (merge_patch (Some start) joined) received
  -- the join is no deeper than the patches; rewritten against the start, it is a JSON Patch that leads to the end
  pub no_deeper : (n : ℕ) → AreNoDeeper n patches → depth joined ≤ n
  pub operations : List Operation
  pub rewritten : IsRewriting start joined operations
  pub leads : AreNoDeeper depth_limit patches → LeadsTo start (merge_patch (Some start) joined) operations

-- pairwise compatible patches, at least one, bring all replicas of a document to the same document
abbrev pub ReplicasConverge : Type 0
ReplicasConverge = (start : Document) (patches : List Document) → IsDocument start → patches ≢ []
    → All IsDocument patches → PairwiseCompatible patches → Converge start patches
