-- What the proofs of the crates above may cite: facts about names, about membership in a list, about what is written, about members as finite maps, about looks, about weights, about what is read, about what an `Option` has, and about what a `Doc` or a value of `serde_json` and a change to its map mean.
pub use Rattle.mp_tree.proofs.Documents.Decisions.{decide_name, decide_path, decide_document, either}
pub use Rattle.mp_tree.proofs.Documents.Depths.{members_depth-by, members_depth-put, members_depth-without, value-depth}
pub use Rattle.mp_tree.proofs.Documents.Elements.{all_before, append-documents, append_nothing, count_of-append, count_of-items-by, count_of-set, depth-append, documents-append, items-append-by, items-set-by, list_of-by, nth-here-by, nth-items-by, nth-set, nth_past, nth_split, readable_documents, readable_items, same_parts, set_item}
pub use Rattle.mp_tree.proofs.Documents.Meaning.{IsDocument-document, documents_by, document_of_map, document-Null, document-Text, document-Items, document-Members}
pub use Rattle.mp_tree.proofs.Documents.SameParts.{members_of_object, no_list_is_map, same_elements, same_item, same_text_at}
pub use Rattle.mp_tree.proofs.Documents.Throughout.{Throughout-find, Throughout-put, Throughout-without}
pub use Rattle.mp_tree.proofs.Documents.Weights.{items_weight-append, items_weight-set, least-weight, members_weight-put, members_weight-without, weight_at}
pub use Rattle.mp_tree.proofs.Looks.Equal.{equal_looks, found_document, is_here, IsDocument-find, none_there, same_plain, same_there}
pub use Rattle.mp_tree.proofs.Looks.Known.{Speaks, name_above, nothing_or, same_look, some_part, speaks_or_silent}
pub use Rattle.mp_tree.proofs.Maps.Edits.{IsMap-by, find-by, inserted-by, looked_up-by, put-by, removed-by, IsMap-members, looked_up, members-inserted, members-put, members-removed}
pub use Rattle.mp_tree.proofs.Maps.Finite.{find-here, find-put, find-without, find-below, IsBelow-trans, IsMap-put, IsMap-without, members_same, find-put_other, find-put_same}
pub use Rattle.mp_tree.proofs.Maps.Names.{cases_same, is_name-self, name_cmp-self, same_from_cmp}
pub use Rattle.mp_tree.proofs.Membership.{Contains-nil, Contains-head, Contains-tail, Contains-cases, Contains-one, Contains-twice, no_member, some_or_all}
pub use Rattle.mp_tree.proofs.Options.{lent_value, same_some, some_none, some_same}
pub use Rattle.mp_tree.proofs.Readings.Values.{depth-from, document_in-read, one_document}
pub use Rattle.mp_tree.proofs.Texts.IntoData.{members-cons-by}
pub use Rattle.mp_tree.proofs.Texts.Lengths.{length-list, length-object}
pub use Rattle.mp_tree.proofs.Texts.Unescaped.{IsUtf8-ascii}
pub use Rattle.mp_tree.proofs.Texts.Written.{has_float-data_of}
pub use Rattle.mp_tree.proofs.Valued.Meaning.{IsDocument-value}
