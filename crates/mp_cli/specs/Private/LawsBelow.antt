-- The laws of the crates below that those of the program rest on. Only private clauses cite it.
use Rattle.mp_tree.specs.Laws.{ReadsReadables, FaultsAreOfArrays, ArraysReadBack}
use Rattle.mp_pointer.specs.Laws as pointer
use Rattle.mp_patch.specs.Laws as patch
use Rattle.mp_merge.specs.Laws as merge

-- of what is read
pub record TextLaws : Type 0 where
  pub readable : ReadsReadables
  pub faults : FaultsAreOfArrays
  pub arrays : ArraysReadBack

-- of pointers
pub record PointerLaws : Type 0 where
  pub one_spelling : pointer.HasOneSpelling
  pub spells_or_is_faulty : pointer.SpellsOrIsFaulty
  pub spelling_unfaulty : pointer.SpellingsHaveNoFault
  pub one_fault : pointer.HasOnePointerFault

-- of JSON Patches
pub record PatchLaws : Type 0 where
  pub one_reading : patch.HasOneReading
  pub form_or_faulty : patch.IsFormOrFaulty
  pub form_documents : patch.FormsHaveDocuments
  pub form_unfaulty : patch.FormsHaveNoFault
  pub one_fault : patch.HasOneFormFault
  pub shapes : patch.ShapesAreForms
  pub readable_shapes : patch.ShapesAreReadable
  pub one_end : patch.HasOneEnd
  pub unrefused : patch.RunsUnrefused
  pub one_refusal : patch.HasOneRefusal
  pub runs_or_is_refused : patch.RunsOrIsRefused

-- of merge patches, one by one and as lists
pub record MergeLaws : Type 0 where
  pub application : merge.ApplicationIsOutcome
  pub readable_merge : merge.MergedIsReadable
  pub one_outcome : merge.HasOneOutcome
  pub outcome_exists : merge.OutcomeExists
  pub replicas_agree : merge.ReplicasAgree
  pub compatible_or_reported : merge.CompatibleOrReported
  pub reported_is_incompatible : merge.CompatibleHaveNone
  pub one_reported_pair : merge.HasOneReportedPair
  pub none_has_no_join : merge.EmptyHasNoJoin
  pub one_join : merge.HasOneJoin
  pub join_exists : merge.JoinExists
  pub join_outcome : merge.JoinGivesOutcome
  pub readable_join : merge.JoinIsReadable

-- of rewritings
pub record RewritingLaws : Type 0 where
  pub exists : merge.RewritingExists
  pub one : merge.HasOneRewriting
  pub documents : merge.RewritingHasDocuments
  pub writable : merge.RewritingIsWritable
  pub runs : merge.RewritingRuns
