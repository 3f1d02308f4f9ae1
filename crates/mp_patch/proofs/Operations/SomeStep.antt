-- What an operation asks for can be done: a part can be changed, a value added if there is a place, and a part removed.
use Rattle.std.proofs.Common.{◌≡◌, ◌≢◌, ◌+◌, ◌<◌, ◌⊎◌, inl, inr, ℕ, zero, suc, List, [], ◌∷◌, ◌++◌, Option, None, Some, option_and_then, refl, sym, ap, ◌∙◌, subst, arith}
use Rattle.mp_tree.specs.Document.{Document, null, flag, whole, string, list, object, Items, no_items, item, put, without, IsDocument}
use Rattle.mp_pointer.specs.Part.{part, child, numeral}
use Rattle.mp_tree.specs.Elements.{count_of, append}
use Rattle.mp_pointer.specs.Spelling.{Tokens}
use Rattle.mp_pointer.proofs.Facts.{part-push, rewrite_part, element_found, last_of, some_last}
use Rattle.mp_patch.specs.Operation.{AddsTo, to_map, to_list, RemovesFrom, from_map, from_list, dash, Adds, Removes}
use Rattle.mp_patch.specs.Refusal.{LacksPlace, HasNoPlace}
use Rattle.mp_tree.proofs.Facts.{decide_name, all_before, count_of-append, nth_split}
use Rattle.mp_patch.proofs.Operations.SingleSteps.{has_place, root_place}

-- ---- a value is added if there is a place

-- the elements before the index that the token spells, counted from k, and those from there on; or the token spells none up to the length
abbrev Split : List ℕ → Items → ℕ → Type 0
Split token ds k = (front : Items) × (back : Items) × (ds ≡ append front back) × (token ≡ numeral (k + count_of front))

abbrev IsPast : List ℕ → Items → ℕ → Type 0
IsPast token ds k = (i : ℕ) → token ≡ numeral (k + i) → count_of ds < i

split_at : (token : List ℕ) (ds : Items) (k : ℕ) → Split token ds k ⊎ IsPast token ds k
split_at token no_items k = elim (decide_name token (numeral (k + 0))) [
  | yes is ↦ inl (no_items, no_items, refl, is)
  | no other ↦ inr (λ i. past other i)
]
  where
    past : ¬ (token ≡ numeral (k + 0)) → (i : ℕ) → token ≡ numeral (k + i) → 0 < i
    past other zero is = absurd (other is)
    past other (suc i) is = omega arith
split_at token (item d ds) k = elim (decide_name token (numeral (k + 0))) [
  | yes is ↦ inl (no_items, item d ds, refl, is)
  | no other ↦ elim (split_at token ds (suc k)) [
    | inl s ↦ inl (item d s.0, s.1, ap (item d) s.2, s.3 ∙ ap numeral (further (count_of s.0)))
    | inr past ↦ inr (λ i. later other past i)
  ]
]
  where
    further : (c : ℕ) → suc k + c ≡ k + suc c
    further c = omega arith

    later : ¬ (token ≡ numeral (k + 0)) → IsPast token ds (suc k) → (i : ℕ) → token ≡ numeral (k + i) → suc (count_of ds) < i
    later other past zero is = absurd (other is)
    later other past (suc i) is = omega (arith, past i (is ∙ ap numeral (sym (further i))))

abbrev Grown : Document → List ℕ → Document → Type 0
Grown v token x = (y : Document) × AddsTo v token x y

add_to : (v : Document) (token : List ℕ) (x : Document) → Grown v token x ⊎ LacksPlace token (Some x)
add_to v token null = inr tt
add_to v token (flag b) = inr tt
add_to v token (whole z) = inr tt
add_to v token (string s) = inr tt
add_to v token (object ms) = inl (object (put token v ms), to_map ms refl refl)
add_to v token (list ds) = elim (decide_name token dash) [
  | yes is ↦ inl (list (append ds (item v no_items)), to_list ds no_items (inr (is, refl)) (ap list (all_before ds)) refl)
  | no other ↦ elim (split_at token ds 0) [
    | inl s ↦ inl (list (append s.0 (item v s.1)), to_list s.0 s.1 (inl (s.3 ∙ ap numeral (from_zero (count_of s.0)))) (ap list s.2) refl)
    | inr past ↦ inr (other, λ i is. past i (is ∙ ap numeral (sym (from_zero i))))
  ]
]
  where
    from_zero : (n : ℕ) → 0 + n ≡ n
    from_zero n = omega arith

had_place : (v : Document) (token : List ℕ) (x y : Document) → AddsTo v token x y → ¬ LacksPlace token (Some x)
had_place v token x y (to_map ms is now) lacks = subst (λ d. LacksPlace token (Some d)) is lacks
had_place v token x y (to_list front back (inl names_it) is now) lacks =
    let past = (subst (λ d. LacksPlace token (Some d)) is lacks).1 (count_of front) names_it in omega (arith, past, count_of-append front back)
had_place v token x y (to_list front back (inr names_it) is now) lacks = (subst (λ d. LacksPlace token (Some d)) is lacks).0 names_it.0

abbrev Added : Tokens → Document → Document → Type 0
Added t v d = (e : Document) × Adds t v d e × ¬ HasNoPlace d t

pub some_addition : (t : Tokens) (v d : Document) → IsDocument d → Added t v d ⊎ HasNoPlace d t
some_addition [] v d good = inl (v, inl (refl, refl), root_place d [] refl)
some_addition (n ∷ t) v d good =
    let end = last_of n t in through end.0 end.1 end.2 (part d end.0) refl
  where
    there : (s : Tokens) (m : List ℕ) (x y : Document) → n ∷ t ≡ s ++ m ∷ [] → part d s ≡ Some x → AddsTo v m x y → Added (n ∷ t) v d
    there s m x y is stood adds =
        let e = rewrite_part s d x y good stood in (
          e.0,
          inr (record { container = s; last = m; is = is; before = x; after = y; stood = stood; stands = e.1; changed = adds; only = e.2 }),
          has_place d x (n ∷ t) s m is stood (had_place v m x y adds),
        )

    through : (s : Tokens) (m : List ℕ) → n ∷ t ≡ s ++ m ∷ [] → (o : Option Document) → part d s ≡ o → Added (n ∷ t) v d ⊎ HasNoPlace d (n ∷ t)
    through s m is None none = inr (s, m, is, subst (LacksPlace m) (sym none) tt)
    through s m is (Some x) stood = elim (add_to v m x) [ inl grown ↦ inl (there s m x grown.0 is stood grown.1) | inr lacks ↦ inr (s, m, is, subst (LacksPlace m) (sym stood) lacks) ]

-- ---- a part is removed

remove_from : (token : List ℕ) (x c : Document) → child token x ≡ Some c → (y : Document) × RemovesFrom token x y
unfolding child
remove_from token null c is = cc
remove_from token (flag b) c is = cc
remove_from token (whole z) c is = cc
remove_from token (string s) c is = cc
remove_from token (list ds) c is =
    let found = element_found 0 token ds c is in
    let split = nth_split found.0 ds c found.2 in
    let at : 0 + found.0 ≡ count_of split.0 = omega (arith, split.2) in
    (list (append split.0 split.1), from_list split.0 split.1 c (found.1 ∙ ap numeral at) (ap list split.3) refl)
remove_from token (object ms) c is = (object (without token ms), from_map ms c is refl refl)

pub some_removal : (t : Tokens) (d c : Document) → IsDocument d → t ≢ [] → part d t ≡ Some c → (e : Document) × Removes t d e
some_removal t d c good deeper is =
    let end = some_last t deeper in
    through end.0 end.1 end.2 (part d end.0) refl (sym (part-push d end.0 end.1) ∙ ap (part d) (sym end.2) ∙ is)
  where
    through : (s : Tokens) (m : List ℕ) → t ≡ s ++ m ∷ [] → (o : Option Document) → part d s ≡ o → option_and_then (child m) (part d s) ≡ Some c → (e : Document) × Removes t d e
    through s m ends None none there = absurd (let gone : None ≡ Some c = ap (option_and_then (child m)) (sym none) ∙ there in cc)
    through s m ends (Some x) stood there =
        let left = remove_from m x c (ap (option_and_then (child m)) (sym stood) ∙ there) in
        let e = rewrite_part s d x left.0 good stood in
        (e.0, record { container = s; last = m; is = ends; before = x; after = left.0; stood = stood; stands = e.1; changed = left.1; only = e.2 })
