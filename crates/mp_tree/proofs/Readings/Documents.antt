-- What is read of the input is documents: a map is built name by name.
use Rattle.std.proofs.Common.{None, Some, IfSome}
use Rattle.serde_json.specs.Data as json
use Rattle.serde_json.specs.Data.{Data}
use Rattle.mp_tree.specs.Document.{whole, list, object, item, put, IsDocument, AreDocuments, IsMap}
use Rattle.mp_tree.specs.Text.{from_data, items_from_data, members_from_data, whole_number}
use Rattle.mp_tree.proofs.Maps.Finite.{IsMap-put}
use Rattle.mp_tree.proofs.Options.{if_both, if_mapped}

-- what holds of a value holds of what it is mapped to
mutual
  pub document_of_data : (x : Data) → IfSome (from_data x) IsDocument
  document_of_data (json.number n) = if_mapped whole (λ z. Unit {0}) IsDocument (whole_number n) (λ z is. tt) (elim (whole_number n) as (λ o. IfSome o (λ z. Unit {0})) [ None ↦ tt | Some z ↦ tt ])
  document_of_data (json.array ds) = if_mapped list AreDocuments IsDocument (items_from_data ds) (λ es good. good) (documents_of_data ds)
  document_of_data (json.object ms) = if_mapped object IsMap IsDocument (members_from_data ms) (λ es good. good) (map_of_data ms)
  document_of_data other = tt

  documents_of_data : (ds : json.Items) → IfSome (items_from_data ds) AreDocuments
  documents_of_data json.no_items = tt
  documents_of_data (json.item d ds) = if_both item IsDocument AreDocuments AreDocuments (from_data d) (items_from_data ds) (λ e es good fine. (good, fine)) (document_of_data d) (documents_of_data ds)

  map_of_data : (ms : json.Members) → IfSome (members_from_data ms) IsMap
  map_of_data json.no_members = tt
  map_of_data (json.member n d ms) = if_both (put n) IsDocument IsMap IsMap (from_data d) (members_from_data ms) (λ e es good fine. IsMap-put n e es good fine) (document_of_data d) (map_of_data ms)
