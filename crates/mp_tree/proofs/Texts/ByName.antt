-- Documents whose members stand in any order, and their members by name.
use Rattle.std.proofs.Common.{◌≡◌, ℕ, List, Ordering, Less, Equal, Greater, Option, Some, None, refl, ap, ap₂, ◌∙◌}
use Rattle.std.specs.Option.{option_or}
use Rattle.std.specs.Ordering.{match_ordering}
use Rattle.serde_json.specs.Data as json
use Rattle.mp_tree.specs.ByName.{by_name, items_by_name, members_by_name}
use Rattle.mp_tree.specs.Document.{Document, list, object, Items, no_items, item, Members, no_members, member, put, find, name_cmp, AreDocuments, IsMap}
use Rattle.mp_tree.specs.Laws.{ByNameIsDocument, DocumentIsByName}
use Rattle.mp_tree.specs.Text.{data_of, members_data}
use Rattle.mp_tree.proofs.Maps.Finite.{IsMap-put, find-below, find-put, members_same}
use Rattle.mp_tree.proofs.Maps.Names.{cases_same, is_name-self, same_from_cmp}

-- ---- the members by name are a map

mutual
  pub by_name-document : ByNameIsDocument
  by_name-document (list ds) = by_name-documents ds
  by_name-document (object ms) = by_name-map ms no_members tt
  by_name-document other = tt

  by_name-documents : (ds : Items) → AreDocuments (items_by_name ds)
  by_name-documents no_items = tt
  by_name-documents (item d ds) = (by_name-document d, by_name-documents ds)

  by_name-map : (ms found : Members) → IsMap found → IsMap (members_by_name ms found)
  by_name-map no_members found map = map
  by_name-map (member n d ms) found map = by_name-map ms (put n (by_name d) found) (IsMap-put n (by_name d) found (by_name-document d) map)

-- ---- a document is the same by name

or_none : (o : Option Document) → option_or o None ≡ o
or_none None = refl
or_none (Some d) = refl

mutual
  pub by_name-same : DocumentIsByName
  by_name-same (list ds) good = ap list (items_by_name-same ds good)
  by_name-same (object ms) good = ap object (members_same (members_by_name ms no_members) ms (by_name-map ms no_members tt) good (λ q. find-by_name q ms no_members good ∙ or_none (find q ms)))
  by_name-same other good = refl

  items_by_name-same : (ds : Items) → AreDocuments ds → items_by_name ds ≡ ds
  items_by_name-same no_items good = refl
  items_by_name-same (item d ds) good = ap₂ item (by_name-same d good.0) (items_by_name-same ds good.1)

  -- of members with their names once, what is found by name is what they have, or else what was found before
  find-by_name : (q : List ℕ) (ms found : Members) → IsMap ms → find q (members_by_name ms found) ≡ option_or (find q ms) (find q found)
  find-by_name q no_members found map = refl
  find-by_name q (member n d ms) found map =
      find-by_name q ms (put n (by_name d) found) map.2
      ∙ ap (option_or (find q ms)) (find-put q n (by_name d) found)
      ∙ cases_same q n
      (λ same. rw (same, is_name-self n, find-below n ms map.1) (ap Some (by_name-same d map.0)))
      (λ other. rw other refl)

-- ---- setting a name of what is written

put_data_at : (o : Ordering) (n m : List ℕ) (d e : Document) (ms : Members) → name_cmp n m ≡ o → members_data (put n d ms) ≡ json.put n (data_of d) (members_data ms)
    → members_data (match_ordering o (member n d (member m e ms)) (member n d ms) (member m e (put n d ms)))
    ≡ match_ordering o (json.member n (data_of d) (json.member m (data_of e) (members_data ms))) (json.member m (data_of d) (members_data ms)) (json.member m (data_of e) (json.put n (data_of d) (members_data ms)))
put_data_at Less n m d e ms is later = refl
put_data_at Equal n m d e ms is later = ap (λ k. json.member k (data_of d) (members_data ms)) (same_from_cmp n m is)
put_data_at Greater n m d e ms is later = ap (json.member m (data_of e)) later

pub members_data-put : (n : List ℕ) (d : Document) (ms : Members) → members_data (put n d ms) ≡ json.put n (data_of d) (members_data ms)
members_data-put n d no_members = refl
members_data-put n d (member m e ms) = put_data_at (name_cmp n m) n m d e ms refl (members_data-put n d ms)
