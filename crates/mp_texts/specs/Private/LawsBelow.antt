-- The laws of the crates below that those over texts rest on. Only private clauses cite it.
use Rattle.mp_tree.specs.Laws.{ReadsReadable, ReadsBack}
use Rattle.mp_pointer.specs.Laws as pointer
use Rattle.mp_patch.specs.Laws as patch
use Rattle.mp_merge.specs.Laws as merge

-- of what is read, and of joins
pub record JoinLaws : Type 0 where
  pub readable : ReadsReadable
  pub reads_back : ReadsBack
  pub one_join : merge.HasOneJoin
  pub none_has_no_join : merge.EmptyHasNoJoin
  pub join_exists : merge.JoinExists
  pub readable_join : merge.JoinIsReadable

-- of outcomes, rewritings and JSON Patches
pub record ReplayLaws : Type 0 where
  pub replicas_agree : merge.ReplicasAgree
  pub one_outcome : merge.HasOneOutcome
  pub join_outcome : merge.JoinGivesOutcome
  pub readable_merge : merge.MergedIsReadable
  pub rewriting_documents : merge.RewritingHasDocuments
  pub rewriting_runs : merge.RewritingRuns
  pub one_reading : patch.HasOneReading
  pub one_end : patch.HasOneEnd
  pub shapes_are_forms : patch.ShapesAreForms

-- of what has one answer alone
pub record AnswerLaws : Type 0 where
  pub readable : ReadsReadable
  pub one_spelling : pointer.HasOneSpelling
  pub spelling_unfaulty : pointer.SpellingsHaveNoFault
  pub one_pointer_fault : pointer.HasOnePointerFault
  pub one_reading : patch.HasOneReading
  pub form_documents : patch.FormsHaveDocuments
  pub form_unfaulty : patch.FormsHaveNoFault
  pub one_form_fault : patch.HasOneFormFault
  pub one_end : patch.HasOneEnd
  pub one_outcome : merge.HasOneOutcome
  pub outcome_exists : merge.OutcomeExists
  pub reported_is_incompatible : merge.CompatibleHaveNone
  pub none_has_no_join : merge.EmptyHasNoJoin
  pub one_join : merge.HasOneJoin
  pub join_exists : merge.JoinExists
  pub one_rewriting : merge.HasOneRewriting
  pub one_report_within : merge.HasOneReportWithin
  pub not_too_large : merge.WithinIsNotTooLarge
  pub one_fitting : merge.HasOneFitting
  pub unstopped : patch.RunsAreNotStopped
  pub one_stop : patch.HasOneStopWithin

-- of what has an answer
pub record ExistenceLaws : Type 0 where
  pub joins : JoinLaws
  pub run_documents : patch.FormsHaveDocuments
  pub runs_or_stops : patch.RunsWithinOrStops
  pub limits_change_nothing : patch.LimitsChangeNoAnswer
  pub writable_forms : patch.FormsAreWritable
  pub readable_runs : patch.RunsAreReadable
  pub spelled_or_faulty : pointer.SpellsOrIsFaulty
  pub readable_parts : pointer.PartsAreReadable
  pub form_or_faulty : patch.IsFormOrFaulty
  pub readable_shapes : patch.ShapesAreReadable
  pub compatible_or_reported : merge.CompatibleOrReported
  pub applied_in_turn : merge.AppliedInTurn
  pub readable_merge : merge.MergedIsReadable
  pub rewriting_exists : merge.RewritingExists
  pub writable_rewriting : merge.RewritingIsWritable
  pub reported_within : merge.ReportedWithin
  pub within_or_too_large : merge.RewritingIsWithinOrNot
