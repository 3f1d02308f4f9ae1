-- A map built from pairs whose names ascend has just those pairs as its entries.
use Rattle.std.proofs.Common.{◌≡◌, ◌⊎◌, inl, inr, ℕ, List, [], ◌∷◌, map, Less, cond, Some, None, String, BTreeMap, Global, string_bytes, string_cmp, refl, sym, ap, ◌∙◌, subst, ◌++◌}
use Rattle.std.proofs.lemmas.Cmp.{nat_list_cmp_total, on_total, eq_by_cmp_equiv}
use Rattle.std.proofs.lemmas.Map.Keys.{IsDistinct-from_sorted}
use Rattle.std.proofs.lemmas.Map.Made.{update_all_none}
use Rattle.std.specs.Cmp.{IsTotalOrder}
use Rattle.std.specs.BTreeMap.{IsFromIterResult, is_at, insert_entry}
use Rattle.std.specs.List.{AllByRecursion}
use Rattle.std.specs.List.Sorted.{IsStrictlySortedBy}
use Rattle.std.specs.Map.{keys_of, lookup}
use Rattle.std.specs.Ordering.{eq_by_cmp}
use Rattle.mp_tree.specs.Document.{name_cmp, is_name}
use Rattle.mp_tree.specs.View.{byte_entries}
use Rattle.mp_tree.proofs.Maps.Ascending.{entries_same}
use Rattle.mp_tree.proofs.Lists.{map-push}
use Rattle.mp_tree.proofs.Maps.Names.{cases_same, below_is_above}
use Rattle.mp_tree.proofs.Passed.{Passed, Passed-next}

string_cmp_total : IsTotalOrder (string_cmp {Z = Global})
string_cmp_total = on_total string_bytes nat_list_cmp_total

abbrev Keys : Type 0
Keys = List (String Global)

abbrev bytes_of : Keys → List (List ℕ)
bytes_of ks = map string_bytes ks

all_below : (k : String Global) (ks : Keys) → AllByRecursion (λ l. string_cmp k l ≡ Less) ks → AllByRecursion (λ m. name_cmp (string_bytes k) m ≡ Less) (bytes_of ks)
all_below k [] h = tt
all_below k (l ∷ ks) h = (h.0, all_below k ks h.1)

names_ascend : (ks : Keys) → IsStrictlySortedBy string_cmp ks → IsStrictlySortedBy name_cmp (bytes_of ks)
unfolding IsStrictlySortedBy
names_ascend [] h = tt
names_ascend (k ∷ ks) h = (all_below k ks h.0, names_ascend ks h.1)

all_below_back : (k : String Global) (ks : Keys) → AllByRecursion (λ m. name_cmp (string_bytes k) m ≡ Less) (bytes_of ks) → AllByRecursion (λ l. string_cmp k l ≡ Less) ks
all_below_back k [] h = tt
all_below_back k (l ∷ ks) h = (h.0, all_below_back k ks h.1)

keys_ascend : (ks : Keys) → IsStrictlySortedBy name_cmp (bytes_of ks) → IsStrictlySortedBy string_cmp ks
unfolding IsStrictlySortedBy
keys_ascend [] h = tt
keys_ascend (k ∷ ks) h = (all_below_back k ks h.0, keys_ascend ks h.1)

-- keys with the bytes of ascending keys ascend
ascend_from_bytes : (ks ls : Keys) → map string_bytes ks ≡ map string_bytes ls → IsStrictlySortedBy string_cmp ls → IsStrictlySortedBy string_cmp ks
ascend_from_bytes ks ls same h = keys_ascend ks (subst (IsStrictlySortedBy name_cmp) (sym same) (names_ascend ls h))

module _ {V : Type 0} where
  keys_of-byte_entries : (es : List (String Global × V)) → keys_of (byte_entries es) ≡ bytes_of (keys_of es)
  keys_of-byte_entries [] = refl
  keys_of-byte_entries (e ∷ es) = ap (λ ns. string_bytes e.0 ∷ ns) (keys_of-byte_entries es)

  lookup-byte_entries : (q : List ℕ) (es : List (String Global × V)) → lookup (is_name q) (byte_entries es) ≡ lookup (is_at (λ k. name_cmp q (string_bytes k))) es
  lookup-byte_entries q [] = refl
  lookup-byte_entries q (e ∷ es) = ap (cond (is_name q (string_bytes e.0)) (Some e.1)) (lookup-byte_entries q es)

  -- a name that is looked up is that of some key, or it is not there
  key_or_none : (q : List ℕ) (es : List (String Global × V)) → ((k : String Global) × (string_bytes k ≡ q)) ⊎ (lookup (is_name q) (byte_entries es) ≡ None)
  key_or_none q [] = inr refl
  key_or_none q (e ∷ es) = cases_same q (string_bytes e.0) (λ same. inl (e.0, sym same)) (λ other. elim (key_or_none q es) [ inl k ↦ inl k | inr none ↦ inr (rw other none) ])

  at_names : (es ps : List (String Global × V)) → ((k : String Global) → lookup (is_at (string_cmp k)) es ≡ lookup (is_at (string_cmp k)) ps) → (q : List ℕ) → lookup (is_name q) (byte_entries es) ≡ lookup (is_name q) (byte_entries ps)
  at_names es ps same q =
      let at_key = λ (k : (k : String Global) × (string_bytes k ≡ q)).
      subst (λ r. lookup (is_name r) (byte_entries es) ≡ lookup (is_name r) (byte_entries ps)) k.1 (lookup-byte_entries (string_bytes k.0) es ∙ same k.0 ∙ sym (lookup-byte_entries (string_bytes k.0) ps)) in
      elim (key_or_none q es) [ inl k ↦ at_key k | inr none ↦ elim (key_or_none q ps) [ inl k ↦ at_key k | inr absent ↦ none ∙ sym absent ] ]

  pub byte_entries-from_iter : (m : BTreeMap (String Global) V) (ps : List (String Global × V)) → IsStrictlySortedBy string_cmp (keys_of ps) → IsFromIterResult string_cmp ps m → byte_entries m.entries ≡ byte_entries ps
  byte_entries-from_iter m ps ascending made =
      let found : (k : String Global) → lookup (is_at (string_cmp k)) m.entries ≡ lookup (is_at (string_cmp k)) ps =
      λ k. made.0 k ∙ update_all_none (eq_by_cmp_equiv string_cmp_total) (eq_by_cmp string_cmp) (λ _ _. refl) ps k (IsDistinct-from_sorted string_cmp (keys_of ps) ascending) in
      entries_same (byte_entries m.entries) (byte_entries ps) (subst (IsStrictlySortedBy name_cmp) (sym (keys_of-byte_entries m.entries)) (names_ascend (keys_of m.entries) made.1))
      (subst (IsStrictlySortedBy name_cmp) (sym (keys_of-byte_entries ps)) (names_ascend (keys_of ps) ascending)) (at_names m.entries ps found)

-- ---- entries seen alike: the same names, and values that mean the same

abbrev pub seen : {V C : Type 0} → (V → C) → String Global × V → List ℕ × C
seen f e = (string_bytes e.0, f e.1)

names_of-seen : {V C : Type 0} (f : V → C) (es : List (String Global × V)) → map (λ p. p.0) (map (seen f) es) ≡ bytes_of (keys_of es)
names_of-seen f [] = refl
names_of-seen f (e ∷ es) = ap (λ ns. string_bytes e.0 ∷ ns) (names_of-seen f es)

pub ascend_from_seen : {V W C : Type 0} (f : V → C) (g : W → C) (es : List (String Global × V)) (fs : List (String Global × W)) → map (seen f) es ≡ map (seen g) fs
    → IsStrictlySortedBy string_cmp (keys_of fs) → IsStrictlySortedBy string_cmp (keys_of es)
ascend_from_seen f g es fs same = ascend_from_bytes (keys_of es) (keys_of fs) (sym (names_of-seen f es) ∙ ap (map (λ p. p.0)) same ∙ names_of-seen g fs)

pub seen-byte_entries : {V C : Type 0} (f : V → C) (es : List (String Global × V)) → map (seen f) es ≡ map (λ p. (p.0, f p.1)) (byte_entries es)
seen-byte_entries f [] = refl
seen-byte_entries f (e ∷ es) = ap (λ ps. seen f e ∷ ps) (seen-byte_entries f es)

-- a map that has the pairs is seen as the pairs are
pub seen-same : {V C : Type 0} (f : V → C) (es fs : List (String Global × V)) → byte_entries es ≡ byte_entries fs → map (seen f) es ≡ map (seen f) fs
seen-same f es fs same = seen-byte_entries f es ∙ ap (map (λ p. (p.0, f p.1))) same ∙ sym (seen-byte_entries f fs)

-- ---- an entry above the others goes last

below_middle : {V : Type 0} (k l : String Global) (es : List (String Global × V)) (v : V) (left : List (String Global × V)) → AllByRecursion (λ y. string_cmp k y ≡ Less) (keys_of (es ++ (l, v) ∷ left)) → string_cmp k l ≡ Less
below_middle k l [] v left h = h.0
below_middle k l (e ∷ es) v left h = below_middle k l es v left h.1

insert-last : {V : Type 0} (es : List (String Global × V)) (k : String Global) (v : V) (left : List (String Global × V)) → IsStrictlySortedBy string_cmp (keys_of (es ++ (k, v) ∷ left))
    → insert_entry string_cmp es k v ≡ es ++ (k, v) ∷ []
unfolding IsStrictlySortedBy
insert-last [] k v left ascending = refl
insert-last (e ∷ es) k v left ascending =
    let above = below_is_above (string_bytes e.0) (string_bytes k) (below_middle e.0 k es v left ascending.0) in
    rw above (ap (λ fs. e ∷ fs) (insert-last es k v left ascending.1))

-- the same where the entries that are there are those that a loop has passed, of a list that ascends
pub insert-last-passed : {V : Type 0} {ps left more : List (String Global × V)} (es new : List (String Global × V)) (k : String Global) (v : V) (p : Passed ps left (λ passed. es ≡ passed)) → left ≡ (k, v) ∷ more
    → IsStrictlySortedBy string_cmp (keys_of ps) → new ≡ insert_entry string_cmp es k v → new ≡ p.passed ++ (k, v) ∷ []
insert-last-passed {more = more} es new k v p next ascending inserted =
    let all_ascend = subst (λ fs. IsStrictlySortedBy string_cmp (keys_of fs)) (Passed-next p next) ascending in
    inserted ∙ ap (λ fs. insert_entry string_cmp fs k v) p.holds ∙ insert-last p.passed k v more all_ascend

all_up_to : {V : Type 0} (k l : String Global) (es : List (String Global × V)) (v : V) (left : List (String Global × V)) → AllByRecursion (λ y. string_cmp k y ≡ Less) (keys_of (es ++ (l, v) ∷ left)) → AllByRecursion (λ y. string_cmp k y ≡ Less) (keys_of (es ++ (l, v) ∷ []))
all_up_to k l [] v left h = (h.0, tt)
all_up_to k l (e ∷ es) v left h = (h.0, all_up_to k l es v left h.1)

ascend_up_to : {V : Type 0} (es : List (String Global × V)) (k : String Global) (v : V) (left : List (String Global × V)) → IsStrictlySortedBy string_cmp (keys_of (es ++ (k, v) ∷ left)) → IsStrictlySortedBy string_cmp (keys_of (es ++ (k, v) ∷ []))
unfolding IsStrictlySortedBy
ascend_up_to [] k v left ascending = (tt, tt)
ascend_up_to (e ∷ es) k v left ascending = (all_up_to e.0 k es v left ascending.0, ascend_up_to es k v left ascending.1)

-- the same if they are seen as those that it has passed
pub insert-last-seen : {V W C : Type 0} (f : V → C) (g : W → C) {es left more : List (String Global × W)} (fs new : List (String Global × V)) (k l : String Global) (v : V) (w : W)
    → Passed es left (λ passed. map (seen f) fs ≡ map (seen g) passed) → left ≡ (l, w) ∷ more → seen f (k, v) ≡ seen g (l, w) → IsStrictlySortedBy string_cmp (keys_of es) → new ≡ insert_entry string_cmp fs k v
    → new ≡ fs ++ (k, v) ∷ []
insert-last-seen f g {more = more} fs new k l v w p next same ascending inserted =
    let grown = map-push (seen f) (seen g) fs p.passed (k, v) (l, w) p.holds same in
    let ascending_so_far = ascend_up_to p.passed l w more (subst (λ ps. IsStrictlySortedBy string_cmp (keys_of ps)) (Passed-next p next) ascending) in
    inserted ∙ insert-last fs k v [] (ascend_from_seen f g (fs ++ (k, v) ∷ []) (p.passed ++ (l, w) ∷ []) grown ascending_so_far)
