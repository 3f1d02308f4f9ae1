-- The order of identities, and what is found in a map under one.
use Rattle.std.proofs.Common.{◌≡◌, ◌≢◌, ◌↔◌, ◌⊎◌, inl, inr, ℕ, List, [], ◌∷◌, ◌++◌, Bool, true, false, true≢false, cond, Option, None, Some, option_map, refl, sym, ap, ◌∙◌, subst}
use Rattle.std.specs.BTreeMap.{is_at}
use Rattle.std.specs.BTreeSet.{BTreeSet, IsEmpty, Updates, contains}
use Rattle.std.specs.Cmp.{IsTotalOrder}
use Rattle.std.specs.List.{Contains}
use Rattle.std.specs.List.Sorted.{IsStrictlySortedBy}
use Rattle.std.specs.Map.{keys_of, lookup}
use Rattle.std.specs.Ordering.{nat_cmp}
use Rattle.std.specs.declared.cmp.Ordering.{Ordering}
use Rattle.std.specs.declared.cmp.Ordering.TheVariants.{Less, Equal, Greater}
use Rattle.std.proofs.lemmas.Cmp.{eq_by_cmp_equiv, nat_cmp_total, on_total, then_total, tied_itself}
use Rattle.std.proofs.lemmas.List.Elements.{Contains-append_left, Contains-push, Contains-push_cases}
use Rattle.std.proofs.lemmas.Map.Keys.{IsDistinct-from_sorted}
use Rattle.std.proofs.lemmas.Map.Lookups.{CmpEqualImpliesEq, exact_pairs, exact_unsigned}
use Rattle.std.proofs.lemmas.Map.Views.{Contains-from_lookup, lookup-from_Contains, tells_apart}
use Rattle.std.specs.Option.{is_some}
use Rattle.mp_tree.specs.Document.{Document, IsDocument}
use Rattle.mp_tree.specs.View.{document}
use Rattle.mp_tree.specs.declared.doc.Doc.{Doc}
use Rattle.mp_tree.proofs.Facts.{Contains-nil, IsDocument-document}
use Rattle.mp_replica.specs.PatchLog.{StoresAlso, identity_cmp, stored_in}
use Rattle.mp_replica.specs.Private.Identities.{HasThese}
use Rattle.mp_replica.specs.declared.message.Identity.{Identity}

pub identities_total : IsTotalOrder identity_cmp
identities_total = then_total (on_total (λ i. i.sender) nat_cmp_total) (on_total (λ i. i.number) nat_cmp_total)

pub exact_identities : CmpEqualImpliesEq identity_cmp
exact_identities a b same = ap (λ (p : ℕ × ℕ). record { sender = p.0; number = p.1 }) (exact_pairs nat_cmp nat_cmp exact_unsigned exact_unsigned (a.sender, a.number) (b.sender, b.number) same)

-- ---- what is stored under an identity

some_of : {X Y : Type 0} (f : X → Y) (o : Option X) (y : Y) → option_map f o ≡ Some y → (x : X) × (o ≡ Some x) × (f x ≡ y)
some_of f (Some x) y is = (x, refl, let both = is in cc)
some_of f None y is = absurd (let differ = is in cc)

-- an entry is stored under its identity
pub stored_entry : (es : List (Identity × Doc)) (i : Identity) (d : Doc) → IsStrictlySortedBy identity_cmp (keys_of es) → Contains es (i, d) → stored_in es i ≡ Some (document d)
stored_entry es i d ascending at = ap (option_map document) (lookup-from_Contains (eq_by_cmp_equiv identities_total) i d es (IsDistinct-from_sorted identity_cmp (keys_of es) ascending) at)

-- and what is stored is an entry
pub entry_stored : (es : List (Identity × Doc)) (i : Identity) (p : Document) → stored_in es i ≡ Some p → (d : Doc) × Contains es (i, d) × (document d ≡ p)
entry_stored es i p is =
    let found = some_of document (lookup (is_at (identity_cmp i)) es) p is in
    (found.0, Contains-from_lookup (tells_apart exact_identities) i found.0 es found.1, found.2)

pub stored_is_document : (es : List (Identity × Doc)) (i : Identity) (p : Document) → stored_in es i ≡ Some p → IsDocument p
stored_is_document es i p is = let found = entry_stored es i p is in subst IsDocument found.2 (IsDocument-document found.0)

-- ---- two identities

tell : (i j : Identity) (o : Ordering) → identity_cmp i j ≡ o → (i ≡ j) ⊎ (i ≢ j)
tell i j Equal is = inl (exact_identities i j is)
tell i j Less is = inr (λ same. let other : Less ≡ Equal = sym (subst (λ k. identity_cmp i k ≡ Less) (sym same) is) ∙ tied_itself identities_total i in cc)
tell i j Greater is = inr (λ same. let other : Greater ≡ Equal = sym (subst (λ k. identity_cmp i k ≡ Greater) (sym same) is) ∙ tied_itself identities_total i in cc)

pub decide_identity : (i j : Identity) → (i ≡ j) ⊎ (i ≢ j)
decide_identity i j = tell i j (identity_cmp i j) refl

apart : (i j : Identity) → i ≢ j → is_at (identity_cmp i) j ≡ false
apart i j other = by (is_at (identity_cmp i) j) refl
  where
    by : (b : Bool) → is_at (identity_cmp i) j ≡ b → is_at (identity_cmp i) j ≡ false
    by false is = is
    by true is = absurd (other (tells_apart exact_identities i j is))

-- ---- one more patch is stored

-- what an insertion under another identity finds is found still
pub stores_also : (es fs : List (Identity × Doc)) (i : Identity) (d : Doc) → ((j : Identity) → is_at (identity_cmp i) j ≡ false → lookup (is_at (identity_cmp j)) fs ≡ lookup (is_at (identity_cmp j)) es)
    → lookup (is_at (identity_cmp i)) fs ≡ Some d → StoresAlso (stored_in es) i (document d) (stored_in fs)
stores_also es fs i d others here = record {
  here = ap (option_map document) here;
  others = λ j other. ap (option_map document) (others j (apart i j (λ same. other (sym same))));
}

-- ---- whether something is stored

some_if : (o : Option Doc) → option_map document o ≢ None → true ≡ is_some o
some_if (Some d) some = refl
some_if None some = absurd (some refl)

some_then : (o : Option Doc) → true ≡ is_some o → option_map document o ≢ None
some_then (Some d) some none = let never = none in cc
some_then None some none = true≢false some

pub tells_stored : (es : List (Identity × Doc)) (i : Identity) (answer : Bool) → answer ≡ is_some (lookup (is_at (identity_cmp i)) es) → (answer ≡ true) ↔ (stored_in es i ≢ None)
tells_stored es i answer is = (
  λ yes. some_then (lookup (is_at (identity_cmp i)) es) (sym yes ∙ is),
  λ some. is ∙ sym (some_if (lookup (is_at (identity_cmp i)) es) some),
)

-- ---- a set of identities

pub none_has : (s : BTreeSet Identity) → IsEmpty s → HasThese s []
none_has s empty i = (
  λ has. absurd (true≢false (sym has ∙ ap (λ ks. contains identity_cmp (record { keys = ks }) i) empty)),
  λ at. absurd (Contains-nil i at),
)

-- one more was inserted
pub one_more : (s n : BTreeSet Identity) (xs : List Identity) (k : Identity) → Updates identity_cmp s n k true → HasThese s xs → HasThese n (xs ++ k ∷ [])
one_more s n xs k updates has i = (
  found (is_at (identity_cmp k) i) refl (updates.0 i),
  λ at. elim (Contains-push_cases xs k i at) [
    | inl there ↦ kept (is_at (identity_cmp k) i) (updates.0 i) ((has i).1 there)
    | inr same ↦ subst (λ j. contains identity_cmp n j ≡ true) same updates.1
  ],
)
  where
    found : (b : Bool) → is_at (identity_cmp k) i ≡ b → contains identity_cmp n i ≡ cond b true (contains identity_cmp s i)
        → contains identity_cmp n i ≡ true → Contains (xs ++ k ∷ []) i
    found true same now = λ _. subst (Contains (xs ++ k ∷ [])) (tells_apart exact_identities k i same) (Contains-push xs k)
    found false other now = λ here. Contains-append_left xs (k ∷ []) i ((has i).0 (sym now ∙ here))

    kept : (b : Bool) → contains identity_cmp n i ≡ cond b true (contains identity_cmp s i) → contains identity_cmp s i ≡ true → contains identity_cmp n i ≡ true
    kept true now = λ _. now
    kept false now = λ before. now ∙ before
