use Rattle.mp_replica.proofs.laws.merge_laws.Goals as goal

pub returns : goal.returns
returns c = record {
  one_outcome = c.one_outcome.ensures;
  outcome_grows = c.outcome_grows.ensures.more;
  outcome_of_none = c.outcome_grows.ensures.none;
  outcome_of_same = c.only_members_count.ensures.outcomes;
  merged_is_document = c.applies_at_each_name.ensures.document;
  applied_once = c.merging_again.ensures.twice;
  all_clashes_exist = c.all_conflicts.ensures.exist;
  one_list = c.all_conflicts.ensures.one;
  none_if_compatible = c.all_conflicts.ensures.empty;
  conflict_with_a_join = c.conflict_with_a_join.ensures;
  join_exists = c.join_exists.ensures;
  join_grows = c.join_grows.ensures;
  join_in_parts = c.join_in_parts.ensures;
  join_of_same = c.only_members_count.ensures.joins;
  join_of_one = c.joining_again.ensures.one;
  one_join = c.one_join.ensures;
  none_has_no_join = c.empty_has_no_join.ensures;
}
