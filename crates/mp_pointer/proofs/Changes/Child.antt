-- A document in which one child is changed: one element of a list, or one value of a map.
use Rattle.std.proofs.Common.{◌≡◌, ◌≢◌, ◌+◌, ℕ, zero, suc, List, ◌∷◌, cond, false, Ordering, Less, Equal, Greater, is_eq, None, Some, refl, sym, ap, ◌∙◌, arith}
use Rattle.std.specs.Ordering.{match_ordering}
use Rattle.std.specs.Str.{bytes_eq}
use Rattle.mp_tree.specs.Document.{Document, list, object, Items, no_items, item, Members, member, no_members, name_cmp, is_name, find, put, IsMap}
use Rattle.mp_tree.proofs.Facts.{same_from_cmp, find-below, IsBelow-trans, set_item, count_of-set, nth-set, find-put_same, find-put_other}
use Rattle.mp_pointer.specs.Difference.{kind_of, names, array_of, names_of}
use Rattle.mp_pointer.specs.Part.{child, element_from, numeral}
use Rattle.mp_tree.specs.Elements.{nth}
use Rattle.mp_pointer.proofs.Tokens.Indices.{elsewhere, child-numeral}
use Rattle.mp_pointer.proofs.Parts.Along.{child-object, child-list}

-- d has x where the token names a child, e has y there, and nothing else differs
pub record ChildChanges (token : List ℕ) (d e x y : Document) : Type 0 where
  pub alike : kind_of (Some d) ≡ kind_of (Some e)
  pub others : (m : List ℕ) → m ≢ token → child m d ≡ child m e
  pub here : child token d ≡ Some x
  pub there : child token e ≡ Some y

-- ---- one element of a list

element_from-set : (m : List ℕ) (j i k : ℕ) (ds : Items) (y : Document) → k ≡ j + i → m ≢ numeral k → element_from j m ds ≡ element_from j m (set_item i y ds)
element_from-set m j i k no_items y is other = refl
element_from-set m j zero k (item d ds) y is other =
    let apart : m ≢ numeral j = λ e. other (e ∙ ap numeral (omega arith)) in
    rw (elsewhere m j apart) refl
element_from-set m j (suc i) k (item d ds) y is other =
    ap (λ r. cond (bytes_eq m (numeral j)) (Some d) r) (element_from-set m (suc j) i k ds y (omega arith) other)

pub element_changes : (token : List ℕ) (i : ℕ) (ds : Items) (x y : Document) → token ≡ numeral i → nth i ds ≡ Some x → ChildChanges token (list ds) (list (set_item i y ds)) x y
element_changes token i ds x y names_it stood = record {
  alike = ap array_of (sym (count_of-set i y ds));
  others = λ m other. child-list m ds ∙ element_from-set m 0 i i ds y (omega arith) (λ same. other (same ∙ sym names_it)) ∙ sym (child-list m (set_item i y ds));
  here = child-numeral token i ds names_it ∙ stood;
  there = child-numeral token i (set_item i y ds) names_it ∙ nth-set i x y ds stood;
}

-- ---- one value of a map

names_of-put_at : (o : Ordering) (k m : List ℕ) (x y d : Document) (ms : Members) → name_cmp k m ≡ o → IsMap (member m d ms) → find k (member m d ms) ≡ Some x → (find k ms ≡ Some x → names_of (put k y ms) ≡ names_of ms)
    → names_of (match_ordering o (member k y (member m d ms)) (member k y ms) (member m d (put k y ms))) ≡ names_of (member m d ms)
names_of-put_at Less k m x y d ms is map stood later = absurd (nothing (sym (find-below k (member m d ms) (is, IsBelow-trans k m ms is map.1)) ∙ stood))
  where
    nothing : None ≡ Some x → ⊥
    nothing e = cc
names_of-put_at Equal k m x y d ms is map stood later = ap (λ n. n ∷ names_of ms) (same_from_cmp k m is)
names_of-put_at Greater k m x y d ms is map stood later =
    let apart : is_name k m ≡ false = ap is_eq is in
    let further : find k ms ≡ Some x = sym (ap (λ b. cond b (Some d) (find k ms)) apart) ∙ stood in
    ap (λ ns. m ∷ ns) (later further)

pub names_of-put : (k : List ℕ) (x y : Document) (ms : Members) → IsMap ms → find k ms ≡ Some x → names_of (put k y ms) ≡ names_of ms
names_of-put k x y no_members map stood = cc
names_of-put k x y (member m d ms) map stood = names_of-put_at (name_cmp k m) k m x y d ms refl map stood (λ further. names_of-put k x y ms map.2 further)

pub value_changes : (token : List ℕ) (ms : Members) (x y : Document) → IsMap ms → find token ms ≡ Some x → ChildChanges token (object ms) (object (put token y ms)) x y
value_changes token ms x y map stood = record {
  alike = ap names (sym (names_of-put token x y ms map stood));
  others = λ m other. child-object m ms ∙ sym (find-put_other m token y ms other) ∙ sym (child-object m (put token y ms));
  here = child-object token ms ∙ stood;
  there = child-object token (put token y ms) ∙ find-put_same token y ms;
}
