-- What a token names in a list and in a map of what means documents, and what these mean once that has changed.
use Rattle.std.proofs.Common.{◌≡◌, ◌<◌, ◌≤◌, ◌^◌, ℕ, List, [], ◌∷◌, length, get_or, Option, None, Some, option_map, Vec, BTreeMap, String, Global, string_bytes, string_cmp, refl, sym, ap, ◌∙◌, subst, arith}
use Rattle.std.proofs.lemmas.Option.{slice_get_past}
use Rattle.std.specs.BTreeMap.{UpdatesBy, get_by_text}
use Rattle.std.specs.Option.{IsSome}
use Rattle.std.specs.Vec.{with_item}
use Rattle.mp_tree.specs.Document.{Document, IsDocument, list, object, name_cmp, find, put}
use Rattle.mp_tree.specs.View.{items_by, members_by}
use Rattle.mp_tree.proofs.Facts.{find-by, inserted-by, IsMap-by, nth-items-by, count_of-items-by, nth-here-by, items-set-by, set_item}
use Rattle.mp_pointer.specs.Borrowing.{PartBecomes}
use Rattle.mp_pointer.specs.Part.{child, numeral}
use Rattle.mp_pointer.specs.Spelling.{Tokens}
use Rattle.mp_pointer.proofs.Changes.Child.{ChildChanges, element_changes, value_changes}
use Rattle.mp_pointer.proofs.Tokens.Indices.{child-numeral, child-no_index}
use Rattle.mp_pointer.proofs.Parts.Along.{child-object, part-push, DifferOnlyAt-child, DifferOnlyAt-root}

-- a child that changes is a part that does
child_becomes : (token : List ℕ) (d e x v : Document) → ChildChanges token d e x v → PartBecomes (token ∷ []) v d e
child_becomes token d e x v changes =
    record { stands = part-push e [] token ∙ changes.there; only = DifferOnlyAt-child token [] d e x v changes.alike changes.others changes.here changes.there (DifferOnlyAt-root x v) }

-- the same of what is equal to both
pub becomes_as : {t : Tokens} {v d e d' e' : Document} → d ≡ d' → e ≡ e' → PartBecomes t v d' e' → PartBecomes t v d e
becomes_as {t} {v} {d} {e} {d'} {e'} is will made = subst (λ a. PartBecomes t v a e) (sym is) (subst (λ a. PartBecomes t v d' a) (sym will) made)

-- ---- one element of a list

module _ {V : Type 0} (f : V → Document) where
  pub no_index_here-by : (token : List ℕ) (v : Vec V Global) → length v.items < 2 ^ 64 → ((i : ℕ) → token ≡ numeral i → 2 ^ 64 ≤ i) → child token (list (items_by f v.items)) ≡ None
  no_index_here-by token v short large = child-no_index token (items_by f v.items) (λ i spelled. omega (arith, large i spelled, short, count_of-items-by f v.items))

  pub past_end-by : (token : List ℕ) (i : ℕ) (v : Vec V Global) → token ≡ numeral i → length v.items ≤ i → child token (list (items_by f v.items)) ≡ None
  past_end-by token i v names_it past = child-numeral token i (items_by f v.items) names_it ∙ nth-items-by f i v.items ∙ ap (option_map f) (slice_get_past v.items i past)

  pub element_here-by : (token : List ℕ) (i : ℕ) (v : Vec V Global) (x : V) → token ≡ numeral i → i < length v.items → x ≡ get_or v.items i x → child token (list (items_by f v.items)) ≡ Some (f x)
  element_here-by token i v x names_it within value = child-numeral token i (items_by f v.items) names_it ∙ nth-here-by f v.items i x within value

  pub element_becomes-by : (token : List ℕ) (i : ℕ) (v : Vec V Global) (x w : V) → token ≡ numeral i → i < length v.items → x ≡ get_or v.items i x
      → PartBecomes (token ∷ []) (f w) (list (items_by f v.items)) (list (items_by f (with_item v i w).items))
  element_becomes-by token i v x w names_it within value =
      let changed = list (set_item i (f w) (items_by f v.items)) in
      becomes_as refl (ap list (items-set-by f v.items i w))
      (child_becomes token (list (items_by f v.items)) changed (f x) (f w) (element_changes token i (items_by f v.items) (f x) (f w) names_it (nth-here-by f v.items i x within value)))

-- ---- one value of a map

module _ {V : Type 0} (f : V → Document) (good : (v : V) → IsDocument (f v)) where
  pub value_here-by : (token : List ℕ) (m : BTreeMap (String Global) V) (o : Option V) → o ≡ get_by_text m token → child token (object (members_by f m.entries)) ≡ option_map f o
  value_here-by token m o is = child-object token (members_by f m.entries) ∙ find-by f good token m.entries ∙ ap (option_map f) (sym is)

  pub value_becomes-by : (token : List ℕ) (m n : BTreeMap (String Global) V) (x w : V) → Some x ≡ get_by_text m token
      → (IsSome (get_by_text m token) → UpdatesBy string_cmp (λ l. name_cmp token (string_bytes l)) m n (Some w))
      → PartBecomes (token ∷ []) (f w) (object (members_by f m.entries)) (object (members_by f n.entries))
  value_becomes-by token m n x w is updates =
      let found : find token (members_by f m.entries) ≡ Some (f x) = find-by f good token m.entries ∙ ap (option_map f) (sym is) in
      let changed = object (put token (f w) (members_by f m.entries)) in
      becomes_as refl (ap object (inserted-by f good token m n w (updates (some (get_by_text m token) is))))
      (child_becomes token (object (members_by f m.entries)) changed (f x) (f w) (value_changes token (members_by f m.entries) (f x) (f w) (IsMap-by f good m.entries) found))
    where
      some : (o : Option V) → Some x ≡ o → IsSome o
      some None e = cc
      some (Some y) e = refl
