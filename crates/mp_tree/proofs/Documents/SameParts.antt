-- When lists of elements and maps are seen alike.
use Rattle.std.proofs.Common.{◌≡◌, ◌<◌, ◌⊎◌, inl, inr, ℕ, zero, suc, List, [], ◌∷◌, ◌++◌, map, length, get_or, String, Global, string_cmp, refl, sym, ap, ap₂, ◌∙◌, arith, length-append, Some}
use Rattle.std.proofs.Math.ListN.{get_or-map}
use Rattle.std.proofs.lemmas.List.{length-map}
use Rattle.std.specs.List.Sorted.{IsStrictlySortedBy}
use Rattle.std.specs.Map.{keys_of}
use Rattle.mp_tree.specs.Document.{Document, string, list, object, Items, item, Members, no_members, find}
use Rattle.mp_tree.specs.Elements.{list_of}
use Rattle.mp_tree.specs.View.{members_of, items_by, members_by}
use Rattle.mp_tree.proofs.Documents.Elements.{list_of-by}
use Rattle.mp_tree.proofs.Maps.Building.{seen}
use Rattle.mp_tree.proofs.Texts.IntoData.{members-cons-by}
use Rattle.mp_tree.proofs.Maps.Finite.{pairs_of}
use Rattle.mp_tree.proofs.Lists.{empty_from_length}
use Rattle.mp_tree.proofs.Passed.{Passed, Passed-next, Passed-end}
use Rattle.mp_tree.proofs.Options.{same_some}

-- ---- elements

module _ {V : Type 0} (f : V → Document) where
  documents_from_by : (ds es : List V) → items_by f ds ≡ items_by f es → map f ds ≡ map f es
  documents_from_by ds es same = sym (list_of-by f ds) ∙ ap list_of same ∙ list_of-by f es

  pub length_from_items-by : (ds es : List V) → items_by f ds ≡ items_by f es → length ds ≡ length es
  length_from_items-by ds es same = sym (length-map ds f) ∙ ap length (documents_from_by ds es same) ∙ length-map es f

  -- elements at each place
  pub at_from_items-by : (ds es : List V) (k : ℕ) (d : V) → items_by f ds ≡ items_by f es → f (get_or ds k d) ≡ f (get_or es k d)
  at_from_items-by ds es k d same = sym (get_or-map f ds k d) ∙ ap (λ l. get_or l k (f d)) (documents_from_by ds es same) ∙ get_or-map f es k d

  pub items_from_each-by : (ds es : List V) → length ds ≡ length es → ((k : ℕ) (d : V) → k < length ds → f (get_or ds k d) ≡ f (get_or es k d)) → items_by f ds ≡ items_by f es
  items_from_each-by [] [] long each = refl
  items_from_each-by [] (e ∷ es) long each = absurd (omega arith)
  items_from_each-by (d ∷ ds) [] long each = absurd (omega arith)
  items_from_each-by (d ∷ ds) (e ∷ es) long each = ap₂ item (each zero d (omega arith)) (items_from_each-by ds es (omega arith) (λ k x below. each (suc k) x (omega arith)))

  pairs_of-by : (es : List (String Global × V)) → IsStrictlySortedBy string_cmp (keys_of es) → pairs_of (members_by f es) ≡ map (seen f) es
  unfolding IsStrictlySortedBy
  pairs_of-by [] ascending = refl
  pairs_of-by (e ∷ es) ascending = ap pairs_of (members-cons-by f e es ascending) ∙ ap (λ ps. seen f e ∷ ps) (pairs_of-by es ascending.1)

  -- ascending entries whose members are the same are seen alike
  pub seen_from_members-by : (es fs : List (String Global × V)) → IsStrictlySortedBy string_cmp (keys_of es) → IsStrictlySortedBy string_cmp (keys_of fs) → members_by f es ≡ members_by f fs
      → map (seen f) es ≡ map (seen f) fs
  seen_from_members-by es fs a b same = sym (pairs_of-by es a) ∙ ap pairs_of same ∙ pairs_of-by fs b

  pub members_from_seen-by : (es fs : List (String Global × V)) → map (seen f) es ≡ map (seen f) fs → members_by f es ≡ members_by f fs
  members_from_seen-by es fs same = ap members_of same

  pub length_from_members-by : (es fs : List (String Global × V)) → IsStrictlySortedBy string_cmp (keys_of es) → IsStrictlySortedBy string_cmp (keys_of fs) → members_by f es ≡ members_by f fs
      → length es ≡ length fs
  length_from_members-by es fs a b same = sym (length-map es (seen f)) ∙ ap length (seen_from_members-by es fs a b same) ∙ length-map fs (seen f)

-- ---- members

abbrev inside : Document → Members
inside (object ms) = ms
inside d = no_members

pub members_of_object : (ms es : Members) → object ms ≡ object es → ms ≡ es
members_of_object ms es same = ap inside same

-- ---- equal documents

pub same_text : (s t : List ℕ) → string s ≡ string t → s ≡ t
same_text s t same = cc

pub same_elements : (ds es : Items) → list ds ≡ list es → ds ≡ es
same_elements ds es same = cc

pub same_item : (d e : Document) (ds es : Items) → item d ds ≡ item e es → (d ≡ e) × (ds ≡ es)
same_item d e ds es same = (cc, cc)

pub no_list_is_map : {P : Type 0} (ms : Members) (ds : Items) → object ms ≡ list ds → P
no_list_is_map ms ds same = cc

-- the texts that are found at one name
pub same_text_at : (n : List ℕ) (ms : Members) (s t : List ℕ) → find n ms ≡ Some (string s) → find n ms ≡ Some (string t) → s ≡ t
same_text_at n ms s t here there = same_text s t (same_some (find n ms) (string s) (string t) here there)

-- ---- two lists that are walked together

module _ {A C : Type 0} (f : A → C) where
  -- what was passed of the one list is seen as what was passed of the other
  abbrev pub PassedAlike : List A → List A → List A → List A → Type 0
  PassedAlike xs left ys rest = Passed xs left (λ passed. Passed ys rest (λ others. map f passed ≡ map f others))

  after_alike : (passed others left rest : List A) (x y : A) → map f passed ≡ map f others → map f (passed ++ x ∷ left) ≡ map f (others ++ y ∷ rest) → f x ≡ f y
  after_alike [] [] left rest x y same all = cc
  after_alike [] (p ∷ others) left rest x y same all = absurd (cc)
  after_alike (d ∷ passed) [] left rest x y same all = absurd (cc)
  after_alike (d ∷ passed) (p ∷ others) left rest x y same all =
      let before : map f passed ≡ map f others = cc in
      let after : map f (passed ++ x ∷ left) ≡ map f (others ++ y ∷ rest) = cc in
      after_alike passed others left rest x y before after

  -- what comes next in both
  pub next_same : (xs left ys rest more others : List A) (x y : A) → PassedAlike xs left ys rest → left ≡ x ∷ more → rest ≡ y ∷ others → map f xs ≡ map f ys → f x ≡ f y
  next_same xs left ys rest more others x y p next_left next_rest same =
      after_alike p.passed p.holds.passed more others x y p.holds.holds (sym (ap (map f) (Passed-next p next_left)) ∙ same ∙ ap (map f) (Passed-next p.holds next_rest))

  pub all_same : (xs left ys rest : List A) → PassedAlike xs left ys rest → length xs ≡ length ys → (left ≡ []) ⊎ (rest ≡ []) → map f xs ≡ map f ys
  all_same xs left ys rest p long over =
      let sizes : length p.passed ≡ length p.holds.passed = sym (length-map p.passed f) ∙ ap length p.holds.holds ∙ length-map p.holds.passed f in
      let lengths : length left ≡ length rest = omega (arith, ap length p.all, ap length p.holds.all, length-append p.passed left, length-append p.holds.passed rest) in
      let none : length left ≡ 0 = elim over [ inl nil ↦ ap length nil | inr nil ↦ lengths ∙ ap length nil ] in
      Passed-end (Passed-end p (empty_from_length left none)) (empty_from_length rest (sym lengths ∙ none))
