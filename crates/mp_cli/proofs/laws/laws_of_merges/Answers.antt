use Rattle.mp_cli.proofs.laws.laws_of_merges.Goals as goal

pub returns : goal.returns
returns c = record {
  merges = record {
    application = c.application_is_outcome.ensures;
    readable_merge = c.merged_is_readable.ensures;
    one_outcome = c.one_outcome.ensures;
    outcome_exists = c.outcome_exists.ensures;
    replicas_agree = c.replicas_agree.ensures;
    compatible_or_reported = c.reported_pair.ensures.exists;
    reported_is_incompatible = c.reported_pair.ensures.none;
    one_reported_pair = c.reported_pair.ensures.one;
    none_has_no_join = c.empty_has_no_join.ensures;
    one_join = c.one_join.ensures;
    join_exists = c.join_exists.ensures;
    join_outcome = c.join_gives_outcome.ensures;
    readable_join = c.join_is_readable.ensures;
  };
  rewritings = record {
    exists = c.rewriting_exists.ensures;
    one = c.one_rewriting.ensures;
    documents = c.rewritings_have_documents.ensures;
    writable = c.rewritings_are_writable.ensures.writable;
    runs = c.rewriting_runs.ensures;
  };
}
