-- The weight of a list or a map is the sum of its parts, also after a change.
use Rattle.std.proofs.Common.{◌≡◌, ◌≤◌, ◌-◌, ◌+◌, ℕ, zero, suc, List, length, Bool, true, false, cond, Option, Some, None, Ordering, Less, Equal, Greater, is_eq, refl, ap, ◌∙◌, arith}
use Rattle.std.specs.Ordering.{match_ordering}
use Rattle.mp_tree.specs.Document.{Document, string, Items, no_items, item, Members, no_members, member, name_cmp, is_name, find, put, without, IsBelow, IsMap}
use Rattle.mp_tree.specs.Elements.{append, nth}
use Rattle.mp_tree.specs.Weight.{scalar_weight, name_weight, weight, items_weight, members_weight}
use Rattle.mp_tree.proofs.Documents.Elements.{set_item}
use Rattle.mp_tree.proofs.Maps.Finite.{find-below, IsBelow-trans}
use Rattle.mp_tree.proofs.Maps.Names.{same_name, same_from_cmp, is_name-self}

-- ---- a list after a change

pub items_weight-append : (front back : Items) → items_weight (append front back) ≡ items_weight front + items_weight back
items_weight-append no_items back = omega arith
items_weight-append (item d front) back = omega (arith, items_weight-append front back)

pub items_weight-set : (i : ℕ) (x y : Document) (ds : Items) → nth i ds ≡ Some x → items_weight (set_item i y ds) + weight x ≡ items_weight ds + weight y
items_weight-set i x y no_items is = cc
items_weight-set zero x y (item d ds) is = let same : d ≡ x = cc in omega (arith, ap weight same)
items_weight-set (suc i) x y (item d ds) is = omega (arith, items_weight-set i x y ds is)

-- ---- a map after a change

-- the weight of what is at a name, with the name
abbrev pub weight_at : List ℕ → Option Document → ℕ
weight_at n None = 0
weight_at n (Some d) = name_weight + length n + weight d

put_at : (o : Ordering) (k m : List ℕ) (d e : Document) (ms : Members) → name_cmp k m ≡ o → IsBelow m ms → members_weight (put k d ms) + weight_at k (find k ms) ≡ members_weight ms + (name_weight + length k + weight d)
    → members_weight (match_ordering o (member k d (member m e ms)) (member k d ms) (member m e (put k d ms))) + weight_at k (find k (member m e ms)) ≡ members_weight (member m e ms) + (name_weight + length k + weight d)
put_at Less k m d e ms is below later =
    let none : find k (member m e ms) ≡ None = find-below k (member m e ms) (is, IsBelow-trans k m ms is below) in
    omega (arith, ap (weight_at k) none)
put_at Equal k m d e ms is below later =
    let same : k ≡ m = same_from_cmp k m is in
    let here : find k (member m e ms) ≡ Some e = ap (λ n. find n (member m e ms)) same ∙ ap (λ b. cond b (Some e) (find m ms)) (is_name-self m) in
    omega (arith, ap (weight_at k) here, ap length same)
put_at Greater k m d e ms is below later =
    let other : is_name k m ≡ false = ap is_eq is in
    let there : find k (member m e ms) ≡ find k ms = ap (λ b. cond b (Some e) (find k ms)) other in
    omega (arith, ap (weight_at k) there, later)

-- a name is set
pub members_weight-put : (k : List ℕ) (d : Document) (ms : Members) → IsMap ms → members_weight (put k d ms) + weight_at k (find k ms) ≡ members_weight ms + (name_weight + length k + weight d)
members_weight-put k d no_members map = omega arith
members_weight-put k d (member m e ms) map = put_at (name_cmp k m) k m d e ms refl map.1 (members_weight-put k d ms map.2)

-- a name goes away
pub members_weight-without : (k : List ℕ) (ms : Members) → members_weight (without k ms) + weight_at k (find k ms) ≡ members_weight ms
members_weight-without k no_members = refl
members_weight-without k (member m d ms) = picked (is_name k m) refl (members_weight-without k ms)
  where
    picked : (b : Bool) → is_name k m ≡ b → members_weight (without k ms) + weight_at k (find k ms) ≡ members_weight ms → members_weight (cond b ms (member m d (without k ms))) + weight_at k (cond b (Some d) (find k ms)) ≡ name_weight + length m + weight d + members_weight ms
    picked true is later = omega (arith, ap length (same_name k m is))
    picked false is later = omega (arith, later)

-- each document weighs as much as a scalar
pub least-weight : (d : Document) → scalar_weight ≤ weight d
least-weight (string s) = omega arith
least-weight other = omega arith
