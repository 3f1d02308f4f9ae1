-- What the proofs of the crates above may cite: facts about indices, parts, kinds, one child that changes, documents that differ at one place alone, their weights, about lists of tokens and their spellings, and about what a `?` hands on.
pub use Rattle.mp_pointer.proofs.Changes.Child.{names_of-put}
pub use Rattle.mp_pointer.proofs.Changes.SomeChange.{rewrite_part}
pub use Rattle.mp_pointer.proofs.Changes.Weights.{part-weight, weighs_by_part}
pub use Rattle.mp_pointer.proofs.Parts.Along.{child-object, part-push, DifferOnlyAt-sym, DifferOnlyAt-trans, DifferOnlyAt-root, DifferOnlyAt-child}
pub use Rattle.mp_pointer.proofs.Parts.Children.{no_index_here-by, past_end-by}
pub use Rattle.mp_pointer.proofs.Parts.Depths.{depth-changed, part-depth}
pub use Rattle.mp_pointer.proofs.Parts.Documents.{document-changed, part-document}
pub use Rattle.mp_pointer.proofs.Parts.Kinds.{equals_by_part}
pub use Rattle.mp_pointer.proofs.Parts.Borrowed.{no_child}
pub use Rattle.mp_pointer.proofs.Results.{handed_on}
pub use Rattle.mp_pointer.proofs.Spellings.ReadBack.{has_one_spelling, spellings_have_no_fault, spells_or_is_faulty}
pub use Rattle.mp_pointer.proofs.Tokens.Indices.{numeral-decimal, same_numeral, numeral_first, bytes_differ, child-numeral, element_found, elsewhere}
pub use Rattle.mp_pointer.proofs.Tokens.Lists.{are_same_tokens-Decides, back_again, decide_prefix, last_of, not_empty, root_is_prefix, same_last, some_last, to_end, to_last}
