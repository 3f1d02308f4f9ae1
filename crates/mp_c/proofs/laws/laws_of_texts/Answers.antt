use Rattle.mp_c.proofs.laws.laws_of_texts.Goals as goal

pub returns : goal.returns
returns c = record {
  of_bytes = c.bytes_have_faults.ensures.document;
  has_answer = c.answer_exists.ensures;
  one_answer = c.one_answer.ensures.one;
  faults_show = c.one_answer.ensures.faults;
  places = c.place_laws.ensures;
}
