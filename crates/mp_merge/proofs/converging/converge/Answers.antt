-- Contracts, words of specs/ and the laws that the body names: nothing else is cited but lists of the standard library, and what
-- a `?` hands on.
use Rattle.std.proofs.Common.{◌≡◌, List, map, Some, Ok, Result, MatchResult, Vec, Global, inl, inr, refl, sym, ap, ◌∙◌, subst}
use Rattle.std.proofs.lemmas.Result.{MatchResult-at_ok}
use Rattle.std.proofs.lemmas.List.Elements.{All-contains_itself, All-map, All-weaker}
use Rattle.std.specs.List.{All, Contains}
use Rattle.mp_tree.specs.Document.{Document, IsDocument, depth_limit}
use Rattle.mp_tree.specs.Laws.{DocsAreDocuments}
use Rattle.mp_tree.specs.View.{document}
use Rattle.mp_tree.specs.declared.doc.Doc.{Doc}
use Rattle.mp_patch.specs.Operation.{Operation}
use Rattle.mp_patch.specs.Run.{IsApplyFault}
use Rattle.mp_patch.specs.declared.fault.ApplyFault.{ApplyFault}
use Rattle.mp_patch.specs.declared.fault.ApplyFault.TheVariants.{Refused}
use Rattle.mp_pointer.proofs.Facts.{handed_on}
use Rattle.mp_merge.specs.Application.{merge_patch}
use Rattle.mp_merge.specs.Converged.{IsConvergeFault}
use Rattle.mp_merge.specs.Convergence.{Converge, LeadsTo, ReachesEnd, ReplicasConverge}
use Rattle.mp_merge.specs.Faults.{converge_fault_of_list, converge_fault_of_patch}
use Rattle.mp_merge.specs.Join.{IsJoin}
use Rattle.mp_merge.specs.Laws.{HasOneRewriting, OutcomeExists}
use Rattle.mp_merge.specs.Lists.{AreNoDeeper, HaveSameMembers, IsJoinAllFault, IsReplayFault, PairwiseCompatible}
use Rattle.mp_merge.specs.Outcome.{IsOutcome}
use Rattle.mp_merge.specs.Replicas.{AreReplicas}
use Rattle.mp_merge.specs.Rewriting.{IsRewriting}
use Rattle.mp_merge.specs.declared.fault.ConvergeFault.TheVariants.{OutOfMemory}
use Rattle.mp_pointer.specs.declared.pointer.Pointer.{Pointer}
use Rattle.mp_merge.specs.declared.fault.ListFault.{ListFault}
use Rattle.mp_merge.specs.declared.fault.ListFault.TheVariants.{NoPatches, ConflictOf}
use Rattle.mp_merge.proofs.converging.converge.Goals as goal

-- ---- what the calls answer of the patches that a replica received

module _ {start joined end : Document} {received : List Document} (reached : ReachesEnd start joined end received) where
  replay_is : {r : Result Doc (ListFault (Vec Pointer Global))} {d : Doc} → DocsAreDocuments → r ≡ Ok d
      → MatchResult r (λ e. IsOutcome start received (document e)) (λ fault. IsReplayFault fault received) → document d ≡ end
  replay_is {d = d} docs is says = reached.one_outcome (document d) (docs d).0 (MatchResult-at_ok _ _ d is says)

  join_is : {r : Result Doc (ListFault (Vec Pointer Global))} {d : Doc} → DocsAreDocuments → r ≡ Ok d
      → MatchResult r (λ j. IsJoin received (document j)) (λ fault. IsJoinAllFault fault received) → document d ≡ joined
  join_is {d = d} docs is says = reached.one_join (document d) (docs d).0 (MatchResult-at_ok _ _ d is says)

-- if a JSON Patch leads to an end, the only error is out of memory
patch_fault : {start end : Document} {operations : List Operation} → LeadsTo start end operations → (fault : ApplyFault) → IsApplyFault fault start operations → converge_fault_of_patch fault ≡ OutOfMemory
patch_fault leads (Refused op cause) refused = absurd (leads.unrefused op cause refused)
patch_fault leads ApplyFault.OutOfMemory refused = refl

-- ---- two replicas

same_members : (ps : List Document) → HaveSameMembers ps ps
same_members ps p = (λ at. at, λ at. at)

all_documents : DocsAreDocuments → (ds : List Doc) → All IsDocument (map document ds)
all_documents docs ds = All-map IsDocument document ds (All-weaker (Contains ds) (λ d. IsDocument (document d)) (λ d at. (docs d).0) ds (All-contains_itself ds))

-- what both come to
record Ends (start : Document) (here there : List Document) : Type 0 where
  joined : Document
  at_here : ReachesEnd start joined (merge_patch (Some start) joined) here
  at_there : ReachesEnd start joined (merge_patch (Some start) joined) there
  leads : AreNoDeeper depth_limit here → HasOneRewriting → (j : Document) (operations : List Operation) → j ≡ joined → IsRewriting start j operations
      → LeadsTo start (merge_patch (Some start) joined) operations

ends : DocsAreDocuments → ReplicasConverge → (start : Doc) (here there : List Doc) → AreReplicas (map document here) (map document there) → Ends (document start) (map document here) (map document there)
ends docs law start here there are = record {
  joined = all.joined;
  at_here = all.reached (map document here) (same_members (map document here));
  at_there = all.reached (map document there) are.same;
  leads = λ within one j operations is rewriting.
      let rewritten : IsRewriting (document start) all.joined operations = subst (λ k. IsRewriting (document start) k operations) is rewriting in
      let same : all.operations ≡ operations = one (document start) all.joined all.operations operations all.rewritten rewritten in
      subst (LeadsTo (document start) (merge_patch (Some (document start)) all.joined)) same (all.leads within);
}
  where
    all : Converge (document start) (map document here)
    all = law (document start) (map document here) (docs start).0 are.some (all_documents docs here) are.compatible

-- ---- the calls for any lists

-- if there is a replay, no two patches clash
compatible : DocsAreDocuments → OutcomeExists → (start : Doc) (ps : List Doc) {r : Result Doc (ListFault (Vec Pointer Global))} {d : Doc} → r ≡ Ok d
    → MatchResult r (λ e. IsOutcome (document start) (map document ps) (document e)) (λ fault. IsReplayFault fault (map document ps)) → PairwiseCompatible (map document ps)
compatible docs law start ps {d = d} is says =
    (law (document start) (map document ps) (docs start).0 (all_documents docs ps)).0 (document d, (docs d).0, MatchResult-at_ok _ _ d is says)

module _ (start : Document) (here there : List Document) where
  here_refused : (fault : ListFault (Vec Pointer Global)) → IsReplayFault fault here → IsConvergeFault (converge_fault_of_list fault) start here there
  here_refused NoPatches never = absurd never
  here_refused (ConflictOf first second places) reported = inl reported
  here_refused ListFault.OutOfMemory memory = tt

  there_refused : (fault : ListFault (Vec Pointer Global)) → PairwiseCompatible here → IsReplayFault fault there → IsConvergeFault (converge_fault_of_list fault) start here there
  there_refused NoPatches fine never = absurd never
  there_refused (ConflictOf first second places) fine reported = inr (fine, reported)
  there_refused ListFault.OutOfMemory fine memory = tt

  join_refused : (fault : ListFault (Vec Pointer Global)) → PairwiseCompatible here → PairwiseCompatible there → IsJoinAllFault fault here → IsConvergeFault (converge_fault_of_list fault) start here there
  join_refused NoPatches fine good none = (fine, good, inl none)
  join_refused (ConflictOf first second places) fine good reported = inl reported
  join_refused ListFault.OutOfMemory fine good memory = tt

  other_refused : (fault : ListFault (Vec Pointer Global)) → PairwiseCompatible here → PairwiseCompatible there → IsJoinAllFault fault there → IsConvergeFault (converge_fault_of_list fault) start here there
  other_refused NoPatches fine good none = (fine, good, inr none)
  other_refused (ConflictOf first second places) fine good reported = inr (fine, reported)
  other_refused ListFault.OutOfMemory fine good memory = tt

  patch_refused : (fault : ApplyFault) (joined other : Document) (operations : List Operation) → IsDocument joined → IsDocument other
      → IsJoin here joined → IsJoin there other → IsRewriting start joined operations → IsApplyFault fault start operations → IsConvergeFault (converge_fault_of_patch fault) start here there
  patch_refused (Refused op cause) joined other operations fine good is was edits refused = record {
    joined = joined;
    joined_is_document = fine;
    joined_here = is;
    other = other;
    other_is_document = good;
    joined_there = was;
    operations = operations;
    edits = edits;
    refused = refused;
  }
  patch_refused ApplyFault.OutOfMemory joined other operations fine good is was edits memory = tt

-- ---- the calls of `converge`

pub returns-in_err-replayed_here-clause-calls : goal.returns-in_err-replayed_here-clause-calls
returns-in_err-replayed_here-clause-calls c =
    handed_on _ _ c.from_residual.result c.from_residual.ensures.1 (here_refused _ _ _ c.in_err-replayed_here.field-0.0 c.in_err-replayed_here.ensures.outcome)

pub returns-in_err-replayed_here-clause-refused : goal.returns-in_err-replayed_here-clause-refused
returns-in_err-replayed_here-clause-refused c are within =
    let all = ends c.docs_are_documents.ensures c.replicas_converge.ensures.replicas c.args.start.now c.args.here.now c.args.there.now are in
    handed_on _ _ c.from_residual.result c.from_residual.ensures.1 (ap converge_fault_of_list (all.at_here.replays c.in_err-replayed_here.field-0.0 c.in_err-replayed_here.ensures.outcome))

pub returns-in_err-replayed_there-clause-calls : goal.returns-in_err-replayed_there-clause-calls
returns-in_err-replayed_there-clause-calls c =
    let fine = compatible c.docs_are_documents.ensures c.outcome_exists.ensures c.args.start.now c.args.here.now c.in_ok-replayed_here.was c.replay.ensures.outcome in
    handed_on _ _ c.from_residual-in_err-replayed_there.result c.from_residual-in_err-replayed_there.ensures.1
    (there_refused _ _ _ c.in_err-replayed_there.field-0.0 fine c.in_err-replayed_there.ensures.outcome)

pub returns-in_err-replayed_there-clause-refused : goal.returns-in_err-replayed_there-clause-refused
returns-in_err-replayed_there-clause-refused c are within =
    let all = ends c.docs_are_documents.ensures c.replicas_converge.ensures.replicas c.args.start.now c.args.here.now c.args.there.now are in
    handed_on _ _ c.from_residual-in_err-replayed_there.result c.from_residual-in_err-replayed_there.ensures.1
    (ap converge_fault_of_list (all.at_there.replays c.in_err-replayed_there.field-0.0 c.in_err-replayed_there.ensures.outcome))

pub returns-in_err-joined_here-clause-calls : goal.returns-in_err-joined_here-clause-calls
returns-in_err-joined_here-clause-calls c =
    let fine = compatible c.docs_are_documents.ensures c.outcome_exists.ensures c.args.start.now c.args.here.now c.in_ok-replayed_here.was c.replay.ensures.outcome in
    let good = compatible c.docs_are_documents.ensures c.outcome_exists.ensures c.args.start.now c.args.there.now c.in_ok-replayed_there.was c.replay-2.ensures.outcome in
    handed_on _ _ c.from_residual-in_err-joined_here.result c.from_residual-in_err-joined_here.ensures.1
    (join_refused _ _ _ c.in_err-joined_here.field-0.0 fine good c.in_err-joined_here.ensures.joined)

pub returns-in_err-joined_here-clause-refused : goal.returns-in_err-joined_here-clause-refused
returns-in_err-joined_here-clause-refused c are within =
    let all = ends c.docs_are_documents.ensures c.replicas_converge.ensures.replicas c.args.start.now c.args.here.now c.args.there.now are in
    handed_on _ _ c.from_residual-in_err-joined_here.result c.from_residual-in_err-joined_here.ensures.1
    (ap converge_fault_of_list (all.at_here.joins c.in_err-joined_here.field-0.0 c.in_err-joined_here.ensures.joined))

pub returns-in_err-joined_there-clause-calls : goal.returns-in_err-joined_there-clause-calls
returns-in_err-joined_there-clause-calls c =
    let fine = compatible c.docs_are_documents.ensures c.outcome_exists.ensures c.args.start.now c.args.here.now c.in_ok-replayed_here.was c.replay.ensures.outcome in
    let good = compatible c.docs_are_documents.ensures c.outcome_exists.ensures c.args.start.now c.args.there.now c.in_ok-replayed_there.was c.replay-2.ensures.outcome in
    handed_on _ _ c.from_residual-in_err-joined_there.result c.from_residual-in_err-joined_there.ensures.1
    (other_refused _ _ _ c.in_err-joined_there.field-0.0 fine good c.in_err-joined_there.ensures.joined)

pub returns-in_err-joined_there-clause-refused : goal.returns-in_err-joined_there-clause-refused
returns-in_err-joined_there-clause-refused c are within =
    let all = ends c.docs_are_documents.ensures c.replicas_converge.ensures.replicas c.args.start.now c.args.here.now c.args.there.now are in
    handed_on _ _ c.from_residual-in_err-joined_there.result c.from_residual-in_err-joined_there.ensures.1
    (ap converge_fault_of_list (all.at_there.joins c.in_err-joined_there.field-0.0 c.in_err-joined_there.ensures.joined))

pub returns-in_err-patched-clause-calls : goal.returns-in_err-patched-clause-calls
returns-in_err-patched-clause-calls c =
    let is = MatchResult-at_ok _ _ c.in_ok-joined_here.joined_here c.in_ok-joined_here.was c.join_all.ensures.joined in
    let was = MatchResult-at_ok _ _ c.in_ok-joined_there.joined_there c.in_ok-joined_there.was c.join_all-2.ensures.joined in
    handed_on _ _ c.from_residual-in_err-patched.result c.from_residual-in_err-patched.ensures.1
    (patch_refused _ _ _ c.in_err-patched.field-0.0 _ _ _ (c.docs_are_documents.ensures c.in_ok-joined_here.joined_here).0
    (c.docs_are_documents.ensures c.in_ok-joined_there.joined_there).0 is was c.in_ok-edits.ensures.rewriting c.in_err-patched.ensures.runs)

pub returns-in_err-patched-clause-refused : goal.returns-in_err-patched-clause-refused
returns-in_err-patched-clause-refused c are within =
    let all = ends c.docs_are_documents.ensures c.replicas_converge.ensures.replicas c.args.start.now c.args.here.now c.args.there.now are in
    let joined = join_is all.at_here c.docs_are_documents.ensures c.in_ok-joined_here.was c.join_all.ensures.joined in
    let leads = all.leads within c.one_rewriting.ensures _ _ joined c.in_ok-edits.ensures.rewriting in
    handed_on _ _ c.from_residual-in_err-patched.result c.from_residual-in_err-patched.ensures.1 (patch_fault leads c.in_err-patched.field-0.0 c.in_err-patched.ensures.runs)

pub returns : goal.returns
returns c =
    let docs = c.docs_are_documents.ensures in
    let all = ends docs c.replicas_converge.ensures.replicas c.args.start.now c.args.here.now c.args.there.now in
    let start = document c.args.start.now in
    let Replicas : Type 0 = AreReplicas (map document c.args.here.now) (map document c.args.there.now) in
    let here = λ (are : Replicas). replay_is (all are).at_here docs c.in_ok-replayed_here.was c.replay.ensures.outcome in
    let joined = λ (are : Replicas). join_is (all are).at_here docs c.in_ok-joined_here.was c.join_all.ensures.joined in
    record {
      calls = record {
        replayed_here = MatchResult-at_ok _ _ _ c.in_ok-replayed_here.was c.replay.ensures.outcome;
        replayed_there = MatchResult-at_ok _ _ _ c.in_ok-replayed_there.was c.replay-2.ensures.outcome;
        joined_here = MatchResult-at_ok _ _ _ c.in_ok-joined_here.was c.join_all.ensures.joined;
        joined_there = MatchResult-at_ok _ _ _ c.in_ok-joined_there.was c.join_all-2.ensures.joined;
        merged = c.in_ok-merged.ensures.merged;
        edits = c.in_ok-edits.ensures.rewriting;
        patched = c.in_ok-patched.ensures.runs;
      };
      replayed = λ are. here are ∙ sym (replay_is (all are).at_there docs c.in_ok-replayed_there.was c.replay-2.ensures.outcome);
      joined = λ are. joined are ∙ sym (join_is (all are).at_there docs c.in_ok-joined_there.was c.join_all-2.ensures.joined);
      merged = λ are. c.in_ok-merged.ensures.merged ∙ ap (merge_patch (Some start)) (joined are) ∙ sym (here are);
      patched = λ are within.
          let leads = (all are).leads within c.one_rewriting.ensures _ _ (joined are) c.in_ok-edits.ensures.rewriting in
          leads.alone (document c.in_ok-patched.patched) c.in_ok-patched.ensures.runs ∙ sym (here are);
      refused = λ are within. tt;
    }
