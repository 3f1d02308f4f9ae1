use Rattle.mp_texts.proofs.laws.existence_laws.Goals as goal

pub returns : goal.returns
returns c = record {
  joins = c.join_laws.ensures;
  run_documents = c.forms_have_documents.ensures;
  runs_or_stops = c.one_answer_within.ensures.some;
  limits_change_nothing = c.limits_change_nothing.ensures;
  writable_forms = c.forms_are_writable.ensures;
  readable_runs = c.runs_are_readable.ensures;
  spelled_or_faulty = c.spells_or_is_faulty.ensures;
  readable_parts = c.parts_are_readable.ensures;
  form_or_faulty = c.is_form_or_faulty.ensures;
  readable_shapes = c.shapes_are_readable.ensures;
  compatible_or_reported = c.reported_pair.ensures.exists;
  applied_in_turn = c.applied_in_turn.ensures;
  readable_merge = c.merged_is_readable.ensures;
  rewriting_exists = c.rewriting_exists.ensures;
  writable_rewriting = c.rewritings_are_writable.ensures.writable;
  reported_within = c.first_conflicts.ensures.reported;
  within_or_too_large = c.rewritings_within.ensures.one_of_both;
}
