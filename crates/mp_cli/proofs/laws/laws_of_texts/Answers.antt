use Rattle.mp_cli.proofs.laws.laws_of_texts.Goals as goal

pub returns : goal.returns
returns c = record {
  texts = record { readable = c.readings_are_documents.ensures.elements; faults = c.bytes_have_faults.ensures.elements; arrays = c.arrays_read_back.ensures };
  pointers = record {
    one_spelling = c.one_spelling.ensures;
    spells_or_is_faulty = c.spells_or_is_faulty.ensures;
    spelling_unfaulty = c.spellings_have_no_fault.ensures;
    one_fault = c.one_fault.ensures;
  };
  patches = record {
    one_reading = c.one_reading.ensures;
    form_or_faulty = c.is_form_or_faulty.ensures;
    form_documents = c.forms_have_documents.ensures;
    form_unfaulty = c.forms_have_no_fault.ensures;
    one_fault = c.one_fault-2.ensures;
    shapes = c.shapes_are_forms.ensures;
    readable_shapes = c.shapes_are_readable.ensures;
    one_end = c.one_end.ensures;
    unrefused = c.runs_are_not_refused.ensures;
    one_refusal = c.one_refusal.ensures;
    runs_or_is_refused = c.runs_or_is_refused.ensures;
  };
}
