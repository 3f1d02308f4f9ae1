-- What a change to a map does to the members that it means.
use Rattle.std.proofs.Common.{◌≡◌, ℕ, List, [], ◌∷◌, Bool, true, false, cond, Option, Some, None, option_map, String, BTreeMap, Global, bytes_eq, string_bytes, string_cmp, refl, sym, ap, ◌∙◌}
use Rattle.std.proofs.lemmas.Cmp.{nat_list_cmp_total, eq_by_cmp_equiv}
use Rattle.std.proofs.lemmas.Map.Text.{is_eq-slice_cmp, btree_map_updates_text}
use Rattle.std.specs.BTreeMap.{UpdatesBy, get_by_text, is_at}
use Rattle.std.specs.Map.{lookup}
use Rattle.mp_tree.specs.Document.{Document, name_cmp, is_name, find, put, without, IsMap, IsDocument}
use Rattle.mp_tree.specs.View.{document, members_by}
use Rattle.mp_tree.specs.Private.Entries.{members}
use Rattle.mp_tree.specs.declared.doc.Doc.{Doc}
use Rattle.mp_tree.proofs.Maps.Finite.{find-put, find-without, IsMap-put, IsMap-without, members_same}
use Rattle.mp_tree.proofs.Documents.Meaning.{IsDocument-document}

module _ {V : Type 0} (f : V → Document) (good : (v : V) → IsDocument (f v)) where
  pub IsMap-by : (es : List (String Global × V)) → IsMap (members_by f es)
  IsMap-by [] = tt
  IsMap-by (e ∷ es) = IsMap-put (string_bytes e.0) (f e.1) (members_by f es) (good e.1) (IsMap-by es)

  -- a name is found as the map finds it
  pub find-by : (q : List ℕ) (es : List (String Global × V)) → find q (members_by f es) ≡ option_map f (lookup (is_at (λ k. name_cmp q (string_bytes k))) es)
  find-by q [] = refl
  find-by q (e ∷ es) = find-put q (string_bytes e.0) (f e.1) (members_by f es) ∙ picked (is_name q (string_bytes e.0)) _ _ (find-by q es)
    where
      picked : (b : Bool) (rest : Option Document) (found : Option V) → rest ≡ option_map f found → cond b (Some (f e.1)) rest ≡ option_map f (cond b (Some e.1) found)
      picked true rest found e = refl
      picked false rest found e = e

  same_test : (k q : List ℕ) → bytes_eq k q ≡ is_name q k
  same_test k q = sym (is_eq-slice_cmp k q) ∙ (eq_by_cmp_equiv nat_list_cmp_total).symm k q

  after_update : (k q : List ℕ) (w found : Option V) → option_map f (cond (bytes_eq k q) w found) ≡ cond (is_name q k) (option_map f w) (option_map f found)
  after_update k q w found = rw (same_test k q) (picked (is_name q k))
    where
      picked : (b : Bool) → option_map f (cond b w found) ≡ cond b (option_map f w) (option_map f found)
      picked true = refl
      picked false = refl

  -- after a change at a name
  find-updated : (k : List ℕ) (m n : BTreeMap (String Global) V) (w : Option V) → UpdatesBy string_cmp (λ l. name_cmp k (string_bytes l)) m n w → (q : List ℕ)
      → find q (members_by f n.entries) ≡ cond (is_name q k) (option_map f w) (find q (members_by f m.entries))
  find-updated k m n w updates q =
      find-by q n.entries ∙ ap (option_map f) (btree_map_updates_text k m n w updates q) ∙ after_update k q w (get_by_text m q)
      ∙ ap (cond (is_name q k) (option_map f w)) (sym (find-by q m.entries))

  pub inserted-by : (k : List ℕ) (m n : BTreeMap (String Global) V) (d : V) → UpdatesBy string_cmp (λ l. name_cmp k (string_bytes l)) m n (Some d) → members_by f n.entries ≡ put k (f d) (members_by f m.entries)
  inserted-by k m n d updates =
      members_same (members_by f n.entries) (put k (f d) (members_by f m.entries)) (IsMap-by n.entries) (IsMap-put k (f d) (members_by f m.entries) (good d) (IsMap-by m.entries))
      (λ q. find-updated k m n (Some d) updates q ∙ sym (find-put q k (f d) (members_by f m.entries)))

  pub removed-by : (k : List ℕ) (m n : BTreeMap (String Global) V) → UpdatesBy string_cmp (λ l. name_cmp k (string_bytes l)) m n None → members_by f n.entries ≡ without k (members_by f m.entries)
  removed-by k m n updates =
      members_same (members_by f n.entries) (without k (members_by f m.entries)) (IsMap-by n.entries) (IsMap-without k (members_by f m.entries) (IsMap-by m.entries))
      (λ q. find-updated k m n None updates q ∙ sym (find-without q k (members_by f m.entries) (IsMap-by m.entries)))

  -- ---- by the bytes of a name

  pub looked_up-by : {k n : List ℕ} {o : Option V} (es : List (String Global × V)) → k ≡ n → o ≡ lookup (is_at (λ l. name_cmp k (string_bytes l))) es → find n (members_by f es) ≡ option_map f o
  looked_up-by {k = k} es named value = ap (λ l. find l (members_by f es)) (sym named) ∙ find-by k es ∙ ap (option_map f) (sym value)

  -- a value that is put at a name, into a map as it was before
  pub put-by : {k n : List ℕ} {x : Document} {kept : BTreeMap (String Global) V} (old now : BTreeMap (String Global) V) (d : V) → kept ≡ old → k ≡ n → f d ≡ x
      → UpdatesBy string_cmp (λ l. name_cmp k (string_bytes l)) kept now (Some d) → members_by f now.entries ≡ put n x (members_by f old.entries)
  put-by {k = k} {kept = kept} old now d same named is updates = rw (← same, ← named, ← is) (inserted-by k kept now d updates)

-- ---- of a map of documents

pub IsMap-members : (es : List (String Global × Doc)) → IsMap (members es)
IsMap-members = IsMap-by document IsDocument-document

pub members-inserted : (k : List ℕ) (m n : BTreeMap (String Global) Doc) (d : Doc) → UpdatesBy string_cmp (λ l. name_cmp k (string_bytes l)) m n (Some d) → members n.entries ≡ put k (document d) (members m.entries)
members-inserted = inserted-by document IsDocument-document

pub members-removed : (k : List ℕ) (m n : BTreeMap (String Global) Doc) → UpdatesBy string_cmp (λ l. name_cmp k (string_bytes l)) m n None → members n.entries ≡ without k (members m.entries)
members-removed = removed-by document IsDocument-document

pub looked_up : {k n : List ℕ} {o : Option Doc} (es : List (String Global × Doc)) → k ≡ n → o ≡ lookup (is_at (λ l. name_cmp k (string_bytes l))) es → find n (members es) ≡ option_map document o
looked_up es named value = looked_up-by document IsDocument-document es named value

pub members-put : {k n : List ℕ} {x : Document} {kept : BTreeMap (String Global) Doc} (old now : BTreeMap (String Global) Doc) (d : Doc) → kept ≡ old → k ≡ n → document d ≡ x
    → UpdatesBy string_cmp (λ l. name_cmp k (string_bytes l)) kept now (Some d) → members now.entries ≡ put n x (members old.entries)
members-put old now d same named is updates = put-by document IsDocument-document old now d same named is updates
