-- The laws of the crates below that those of replicas rest on. Only private clauses cite it.
use Rattle.mp_tree.specs.Laws.{DocsAreDocuments, ReadsBack, ReadsReadable}
use Rattle.mp_pointer.specs.Laws as pointer
use Rattle.mp_merge.specs.Laws as merge

pub record MergeLaws : Type 0 where
  pub one_outcome : merge.HasOneOutcome
  pub outcome_grows : merge.OutcomeGrows
  pub outcome_of_none : merge.OutcomeOfNone
  pub outcome_of_same : merge.OutcomeOfSame
  pub merged_is_document : merge.MergedIsDocument
  pub applied_once : merge.AppliedOnce
  pub all_clashes_exist : merge.ClashesExist
  pub one_list : merge.HaveOneList
  pub none_if_compatible : merge.EmptyIfCompatible
  pub conflict_with_a_join : merge.ClashWithAJoin
  pub join_exists : merge.JoinExists
  pub join_grows : merge.JoinGrows
  pub join_in_parts : merge.JoinInParts
  pub join_of_same : merge.JoinOfSame
  pub join_of_one : merge.JoinOfOne
  pub one_join : merge.HasOneJoin
  pub none_has_no_join : merge.EmptyHasNoJoin

-- of texts
pub record TextLaws : Type 0 where
  pub merging : MergeLaws
  pub docs_good : DocsAreDocuments
  pub reads_readable : ReadsReadable
  pub reads_back : ReadsBack
  pub readable_join : merge.JoinIsReadable
  pub readable_merge : merge.MergedIsReadable
  pub join_outcome : merge.JoinGivesOutcome
  pub readable_parts : pointer.PartsAreReadable
  pub one_spelling : pointer.HasOneSpelling
