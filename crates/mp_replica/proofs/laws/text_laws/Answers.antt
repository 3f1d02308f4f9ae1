use Rattle.mp_replica.proofs.laws.text_laws.Goals as goal

pub returns : goal.returns
returns c = record {
  merging = c.merge_laws.ensures;
  docs_good = c.docs_are_documents.ensures;
  reads_readable = c.readings_are_documents.ensures.document;
  reads_back = c.texts_read_back.ensures.readable;
  readable_join = c.join_is_readable.ensures;
  readable_merge = c.merged_is_readable.ensures;
  join_outcome = c.join_gives_outcome.ensures;
  readable_parts = c.parts_are_readable.ensures;
  one_spelling = c.one_spelling.ensures;
}
