-- Replicas that receive the same compatible patches converge.
use Rattle.std.proofs.Common.{◌≡◌, ◌≢◌, ◌≤◌, ℕ, List, [], ◌∷◌, Some, Vec, Global, refl, sym, subst}
use Rattle.std.proofs.lemmas.List.Elements.{All-contains, All-contains_itself, All-weaker}
use Rattle.std.specs.List.{All, Contains}
use Rattle.mp_tree.specs.Document.{Document, IsDocument, depth, depth_limit}
use Rattle.mp_patch.specs.Operation.{Operation}
use Rattle.mp_patch.specs.Laws.{HasOneEnd, RunsUnrefused}
use Rattle.mp_merge.specs.Application.{merge_patch, in_turn}
use Rattle.mp_merge.specs.Convergence.{Converge, LeadsTo, ReachesEnd, ReplicasConverge}
use Rattle.mp_merge.specs.Join.{IsJoin}
use Rattle.mp_merge.specs.Laws.{RewritingRuns}
use Rattle.mp_merge.specs.Lists.{HaveSameMembers}
use Rattle.mp_merge.specs.Lists.{PairwiseCompatible, AreNoDeeper, IsJoinAllFault, IsReplayFault}
use Rattle.mp_merge.specs.Outcome.{IsOutcome}
use Rattle.mp_merge.specs.Rewriting.{IsRewriting}
use Rattle.mp_pointer.specs.declared.pointer.Pointer.{Pointer}
use Rattle.mp_merge.specs.declared.fault.ListFault.{ListFault}
use Rattle.mp_merge.specs.declared.fault.ListFault.TheVariants.{NoPatches, ConflictOf, OutOfMemory}
use Rattle.mp_merge.proofs.Application.ByName.{IsDocument-merge_patch}
use Rattle.mp_tree.proofs.Facts.{Contains-nil, Contains-head}
use Rattle.mp_merge.proofs.Application.InTurn.{IsDocument-in_turn, applied_in_turn}
use Rattle.mp_merge.proofs.Joins.Laws.{join_exists, join_is_no_deeper, join_of_same, one_join}
use Rattle.mp_merge.proofs.Outcome.{one_outcome, join_gives_outcome}
use Rattle.mp_merge.proofs.Rewritings.SomeRewriting.{rewriting_exists, rewriting_has_documents}
use Rattle.mp_merge.proofs.Clashes.ReportedPair.{compatible_have_none}

-- the laws of runs that the proof rests on
pub record RunLaws : Type 0 where
  pub rewriting_runs : RewritingRuns
  pub one_end : HasOneEnd
  pub unrefused : RunsUnrefused

module _ (laws : RunLaws) (start : Document) (patches : List Document) (good : IsDocument start) (some : patches ≢ []) (all : All IsDocument patches) (free : PairwiseCompatible patches) (j : Document) (patch : IsDocument j)
    (joined : IsJoin patches j) where
  abbrev end : Document
  end = merge_patch (Some start) j

  end_is_document : IsDocument end
  end_is_document = IsDocument-merge_patch (Some start) j good patch

  module _ (received : List Document) (same : HaveSameMembers patches received) where
    -- what a replica received is patches too, at least one, and pairwise compatible
    received_documents : All IsDocument received
    received_documents = All-weaker (Contains received) IsDocument (λ p at. All-contains IsDocument patches p all ((same p).1 at)) received (All-contains_itself received)

    received_compatible : PairwiseCompatible received
    received_compatible p q at there = free p q ((same p).1 at) ((same q).1 there)

    received_some : (ps : List Document) → patches ≡ ps → received ≡ [] → ⊥
    received_some [] is none = some is
    received_some (p ∷ ps) is none = Contains-nil p (subst (λ (rs : List Document). Contains rs p) none ((same p).0 (subst (λ (rs : List Document). Contains rs p) (sym is) (Contains-head p ps))))

    joins : (fault : ListFault (Vec Pointer Global)) → IsJoinAllFault fault received → fault ≡ OutOfMemory
    joins NoPatches none = absurd (received_some patches refl none)
    joins (ConflictOf first second places) reported = absurd (compatible_have_none received first second places.items reported received_compatible)
    joins OutOfMemory is = refl

    replays : (fault : ListFault (Vec Pointer Global)) → IsReplayFault fault received → fault ≡ OutOfMemory
    replays NoPatches never = absurd never
    replays (ConflictOf first second places) reported = joins (ConflictOf first second places) reported
    replays OutOfMemory is = refl

    received_join : IsJoin received j
    received_join = join_of_same patches received j same joined

    is_outcome : IsOutcome start received end
    is_outcome = join_gives_outcome start received j good patch received_join

    only_outcome : (e : Document) → IsDocument e → IsOutcome start received e → e ≡ end
    only_outcome e document outcome = one_outcome start received e end document end_is_document outcome is_outcome

    reaches : ReachesEnd start j end received
    reaches = record {
      joins = joins;
      replays = replays;
      is_join = received_join;
      one_join = λ other document also. one_join received other j document patch also received_join;
      is_outcome = is_outcome;
      one_outcome = only_outcome;
      each_in_turn = only_outcome (in_turn start received) (IsDocument-in_turn start received good received_documents) (applied_in_turn start received good received_documents received_compatible);
    }

  leads : (operations : List Operation) → IsRewriting start j operations → depth j ≤ depth_limit → LeadsTo start end operations
  leads operations rewritten shallow =
      let runs = laws.rewriting_runs start j operations good patch shallow rewritten in
      let values = rewriting_has_documents start j operations good patch rewritten in
      record {
        runs = runs;
        unrefused = λ k cause. laws.unrefused start end operations k cause good values runs;
        alone = λ e also. laws.one_end start e end operations good values also runs;
      }

  converge : Converge start patches
  converge =
      let edits = rewriting_exists start j patch in
      let no_deeper : (n : ℕ) → AreNoDeeper n patches → depth j ≤ n = λ n within. join_is_no_deeper patches j n patch all joined within in
      record {
        joined = j;
        is_document = patch;
        end_is_document = end_is_document;
        reached = reaches;
        no_deeper = no_deeper;
        operations = edits.0;
        rewritten = edits.1;
        leads = λ within. leads edits.0 edits.1 (no_deeper depth_limit within);
      }

pub replicas_converge : RunLaws → ReplicasConverge
replicas_converge laws start patches good some all free =
    let found = (join_exists patches some all).1 free in
    converge laws start patches good some all free found.0 found.1 found.2
