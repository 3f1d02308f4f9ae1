use Rattle.mp_texts.proofs.laws.answer_laws.Goals as goal

pub returns : goal.returns
returns c = record {
  readable = c.readings_are_documents.ensures.document;
  one_spelling = c.one_spelling.ensures;
  spelling_unfaulty = c.spellings_have_no_fault.ensures;
  one_pointer_fault = c.one_fault.ensures;
  one_reading = c.one_reading.ensures;
  form_documents = c.forms_have_documents.ensures;
  form_unfaulty = c.forms_have_no_fault.ensures;
  one_form_fault = c.one_fault-2.ensures;
  one_end = c.one_end.ensures;
  one_outcome = c.one_outcome.ensures;
  outcome_exists = c.outcome_exists.ensures;
  reported_is_incompatible = c.reported_pair.ensures.none;
  none_has_no_join = c.empty_has_no_join.ensures;
  one_join = c.one_join.ensures;
  join_exists = c.join_exists.ensures;
  one_rewriting = c.one_rewriting.ensures;
  one_report_within = c.first_conflicts.ensures.one_report;
  not_too_large = c.rewritings_within.ensures.not_both;
  one_fitting = c.rewritings_within.ensures.one_fitting;
  unstopped = c.one_answer_within.ensures.unstopped;
  one_stop = c.one_answer_within.ensures.one_stop;
}
