-- The pairs of patches that conflict, one more pair at a time.
use Rattle.std.proofs.Common.{◌≡◌, ◌≢◌, ◌↔◌, ◌⊎◌, ◌<◌, inl, inr, List, [], ◌∷◌, ◌++◌, length, map, Bool, false, true, true≢false, IsTrue, Option, None, Some, MatchOption, refl, sym, ap, ◌∙◌, subst, arith}
use Rattle.std.proofs.lemmas.Cmp.{on_total, then_total, tied_itself}
use Rattle.std.proofs.lemmas.List.{get_or-map, length-map, map-append}
use Rattle.std.proofs.lemmas.List.Elements.{All-nil, All-push, Contains-append_cases, Contains-append_left, Contains-append_right, Contains-push, Contains-push_cases}
use Rattle.std.proofs.lemmas.Map.Lookups.{CmpEqualImpliesEq, exact_pairs}
use Rattle.std.specs.BTreeSet.{BTreeSet, contains, insert_key}
use Rattle.std.specs.Cmp.{IsTotalOrder}
use Rattle.std.specs.List.{AllByRecursion, Contains}
use Rattle.std.specs.List.Sorted.{IsStrictlySortedBy}
use Rattle.std.specs.Option.{is_some}
use Rattle.std.specs.Ordering.{match_ordering}
use Rattle.std.specs.declared.cmp.Ordering.{Ordering}
use Rattle.std.specs.declared.cmp.Ordering.TheVariants.{Less, Equal, Greater}
use Rattle.mp_tree.specs.Document.{Document}
use Rattle.mp_tree.specs.Look.{Path}
use Rattle.mp_merge.specs.Clash.{AreAllClashes, Compatible}
use Rattle.mp_tree.proofs.Facts.{Contains-nil, Contains-one, Contains-head, Contains-tail, Contains-cases}
use Rattle.mp_tree.proofs.Passed.{Passed, Passed-next}
use Rattle.mp_replica.specs.PatchLog.{AreAllPairsOf, DoClash, IsAmong, IsClashing, Pair, Stored, identities_of, identity_cmp, pair_cmp}
use Rattle.mp_replica.specs.Private.Pairs.{AreClashing, AreOf, AreOrdered, HasBoth, Includes, KeptPairs, KnowsPairs, NoneAmong, Notes}
use Rattle.mp_replica.specs.Private.StoredPatches.{FitsAll}
use Rattle.mp_replica.specs.declared.message.Identity.{Identity}
use Rattle.mp_replica.proofs.Identities.{exact_identities, identities_total}
use Rattle.mp_replica.proofs.Taking.{some_places}

-- ---- lists that rise

module _ {K : Type 0} (cmp : K → K → Ordering) where
  less_push : (x y : K) (xs : List K) → AllByRecursion (λ z. cmp x z ≡ Less) xs → cmp x y ≡ Less → AllByRecursion (λ z. cmp x z ≡ Less) (xs ++ y ∷ [])
  less_push x y [] all less = (less, tt)
  less_push x y (z ∷ xs) all less = (all.0, less_push x y xs all.1 less)

  pub sorted_push : (xs : List K) (y : K) → IsStrictlySortedBy cmp xs → ((x : K) → Contains xs x → cmp x y ≡ Less) → IsStrictlySortedBy cmp (xs ++ y ∷ [])
  unfolding IsStrictlySortedBy
  sorted_push [] y sorted below = (tt, tt)
  sorted_push (x ∷ xs) y sorted below = (less_push x y xs sorted.0 (below x (Contains-head x xs)), sorted_push xs y sorted.1 (λ z at. below z (Contains-tail x z xs at)))

  less_first : (x y : K) (xs more : List K) → AllByRecursion (λ z. cmp x z ≡ Less) (xs ++ y ∷ more) → cmp x y ≡ Less
  less_first x y [] more all = all.0
  less_first x y (z ∷ xs) more all = less_first x y xs more all.1

  -- what was passed is below what comes next
  pub below_next : (xs more : List K) (x y : K) → IsStrictlySortedBy cmp (xs ++ y ∷ more) → Contains xs x → cmp x y ≡ Less
  unfolding IsStrictlySortedBy
  below_next [] more x y sorted at = absurd (Contains-nil x at)
  below_next (z ∷ xs) more x y sorted at = elim (Contains-cases z x xs at) [
    | inl same ↦ subst (λ k. cmp k y ≡ Less) same (less_first z y xs more sorted.0)
    | inr there ↦ below_next xs more x y sorted.1 there
  ]

  less_each : (x y : K) (xs : List K) → AllByRecursion (λ z. cmp x z ≡ Less) xs → Contains xs y → cmp x y ≡ Less
  less_each x y [] all at = absurd (Contains-nil y at)
  less_each x y (z ∷ xs) all at = elim (Contains-cases z y xs at) [
    | inl same ↦ subst (λ k. cmp x k ≡ Less) same all.0
    | inr there ↦ less_each x y xs all.1 there
  ]

none_rising : IsStrictlySortedBy pair_cmp []
unfolding IsStrictlySortedBy
none_rising = tt

-- ---- members of a list that is made of another

pub mapped : {X Y : Type 0} (f : X → Y) (xs : List X) (x : X) → Contains xs x → Contains (map f xs) (f x)
mapped f xs x at =
    let below : at.0 < length (map f xs) = let inside = at.1 in omega (arith, length-map xs f) in
    (at.0, below, get_or-map f xs at.0 x (f x) at.1 ∙ ap f at.2)

pub unmapped : {X Y : Type 0} (f : X → Y) (xs : List X) (y : Y) → Contains (map f xs) y → (x : X) × Contains xs x × (f x ≡ y)
unmapped f [] y at = absurd (Contains-nil y at)
unmapped f (x ∷ xs) y at = elim (Contains-cases (f x) y (map f xs) at) [
  | inl same ↦ (x, Contains-head x xs, same)
  | inr there ↦ let found = unmapped f xs y there in (found.0, Contains-tail x found.0 xs found.1, found.2)
]

-- lists that rise by a key, and have the same members, are one
module _ {X K : Type 0} (cmp : K → K → Ordering) (total : IsTotalOrder cmp) (key : X → K) where
  abbrev pub rises : List X → Type 0
  rises xs = IsStrictlySortedBy cmp (map key xs)

  first_below : (x y : X) (xs : List X) → rises (x ∷ xs) → Contains xs y → cmp (key x) (key y) ≡ Less
  unfolding IsStrictlySortedBy
  first_below x y xs sorted at = less_each cmp (key x) (key y) (map key xs) sorted.0 (mapped key xs y at)

  tail_rises : (x : X) (xs : List X) → rises (x ∷ xs) → rises xs
  unfolding IsStrictlySortedBy
  tail_rises x xs sorted = sorted.1

  never_both : (x y : X) → cmp (key x) (key y) ≡ Less → cmp (key y) (key x) ≡ Less → ⊥
  never_both x y one other = let never : Less ≡ Equal = sym (total.trans (key x) (key y) (key x) one other) ∙ tied_itself total (key x) in cc

  never_itself : (x : X) → cmp (key x) (key x) ≡ Less → ⊥
  never_itself x less = let never : Less ≡ Equal = sym less ∙ tied_itself total (key x) in cc

  tail_in : (x : X) (xs ys : List X) → rises (x ∷ xs) → ((z : X) → Contains (x ∷ xs) z → Contains (x ∷ ys) z) → (z : X) → Contains xs z → Contains ys z
  tail_in x xs ys sorted within z at = elim (Contains-cases x z ys (within z (Contains-tail x z xs at))) [
    | inl same ↦ absurd (never_itself x (subst (λ k. cmp (key x) (key k) ≡ Less) (sym same) (first_below x z xs sorted at)))
    | inr there ↦ there
  ]

  pub same_risen : (xs ys : List X) → rises xs → rises ys → ((z : X) → Contains xs z → Contains ys z) → ((z : X) → Contains ys z → Contains xs z) → xs ≡ ys
  same_risen [] [] one other there back = refl
  same_risen [] (y ∷ ys) one other there back = absurd (Contains-nil y (back y (Contains-head y ys)))
  same_risen (x ∷ xs) [] one other there back = absurd (Contains-nil x (there x (Contains-head x xs)))
  same_risen (x ∷ xs) (y ∷ ys) one other there back =
      let same : x ≡ y = elim (Contains-cases y x ys (there x (Contains-head x xs))) [
        | inl is ↦ sym is
        | inr later ↦ elim (Contains-cases x y xs (back y (Contains-head y ys))) [
          | inl is ↦ is
          | inr after ↦ absurd (never_both x y (first_below x y xs one after) (first_below y x ys other later))
        ]
      ] in
      let other_x : rises (x ∷ ys) = subst (λ k. rises (k ∷ ys)) (sym same) other in
      let there_x : (z : X) → Contains (x ∷ xs) z → Contains (x ∷ ys) z = λ z at. subst (λ k. Contains (k ∷ ys) z) (sym same) (there z at) in
      let back_x : (z : X) → Contains (x ∷ ys) z → Contains (x ∷ xs) z = λ z at. back z (subst (λ k. Contains (k ∷ ys) z) same at) in
      ap (λ k. k ∷ xs) same ∙ ap (λ l. y ∷ l) (same_risen xs ys (tail_rises x xs one) (tail_rises x ys other_x) (tail_in x xs ys one there_x) (tail_in x ys xs other_x back_x))

-- ---- the order of pairs

pub pairs_total : IsTotalOrder pair_cmp
pairs_total = then_total (on_total (λ p. p.0) identities_total) (on_total (λ p. p.1) identities_total)

pub same_less : (i j : Identity) → i ≡ j → identity_cmp i j ≢ Less
same_less i j same less = let never : Less ≡ Equal = sym (subst (λ k. identity_cmp i k ≡ Less) (sym same) less) ∙ tied_itself identities_total i in cc

pub back_less : (i j : Identity) → identity_cmp i j ≡ Less → identity_cmp j i ≢ Less
back_less i j less back = same_less i i refl (identities_total.trans i j i less back)

pub exact_pair : CmpEqualImpliesEq pair_cmp
exact_pair = exact_pairs identity_cmp identity_cmp exact_identities exact_identities

-- ---- one more pair is kept

module _ (k x y : Identity × Identity) (ks : List (Identity × Identity)) where
  place_of_inserted : (o : Ordering) → (Contains (insert_key pair_cmp ks k) x → Contains ks x ⊎ (k ≡ x)) → Contains (match_ordering o (k ∷ y ∷ ks) (y ∷ ks) (y ∷ insert_key pair_cmp ks k)) x → Contains (y ∷ ks) x ⊎ (k ≡ x)
  place_of_inserted Less later at = elim (Contains-cases k x (y ∷ ks) at) [ inl same ↦ inr same | inr there ↦ inl there ]
  place_of_inserted Equal later at = inl at
  place_of_inserted Greater later at = elim (Contains-cases y x (insert_key pair_cmp ks k) at) [
    | inl same ↦ inl (subst (Contains (y ∷ ks)) same (Contains-head y ks))
    | inr there ↦ elim (later there) [ inl before ↦ inl (Contains-tail y x ks before) | inr same ↦ inr same ]
  ]

  place_still : (o : Ordering) → (Contains ks x → Contains (insert_key pair_cmp ks k) x) → Contains (y ∷ ks) x → Contains (match_ordering o (k ∷ y ∷ ks) (y ∷ ks) (y ∷ insert_key pair_cmp ks k)) x
  place_still Less later at = Contains-tail k x (y ∷ ks) at
  place_still Equal later at = at
  place_still Greater later at = elim (Contains-cases y x ks at) [
    | inl same ↦ subst (Contains (y ∷ insert_key pair_cmp ks k)) same (Contains-head y (insert_key pair_cmp ks k))
    | inr there ↦ Contains-tail y x (insert_key pair_cmp ks k) (later there)
  ]

  place_here : (o : Ordering) → pair_cmp k y ≡ o → Contains (insert_key pair_cmp ks k) k → Contains (match_ordering o (k ∷ y ∷ ks) (y ∷ ks) (y ∷ insert_key pair_cmp ks k)) k
  place_here Less is later = Contains-head k (y ∷ ks)
  place_here Equal is later = subst (Contains (y ∷ ks)) (sym (exact_pair k y is)) (Contains-head y ks)
  place_here Greater is later = Contains-tail y k (insert_key pair_cmp ks k) later

pub inserted : (k x : Identity × Identity) (ks : List (Identity × Identity)) → Contains (insert_key pair_cmp ks k) x → Contains ks x ⊎ (k ≡ x)
inserted k x [] at = inr (Contains-one k x at)
inserted k x (y ∷ ks) at = place_of_inserted k x y ks (pair_cmp k y) (inserted k x ks) at

pub still_inserted : (k x : Identity × Identity) (ks : List (Identity × Identity)) → Contains ks x → Contains (insert_key pair_cmp ks k) x
still_inserted k x [] at = absurd (Contains-nil x at)
still_inserted k x (y ∷ ks) at = place_still k x y ks (pair_cmp k y) (still_inserted k x ks) at

pub has_inserted : (k : Identity × Identity) (ks : List (Identity × Identity)) → Contains (insert_key pair_cmp ks k) k
has_inserted k [] = Contains-head k []
has_inserted k (y ∷ ks) = place_here k k y ks (pair_cmp k y) refl (has_inserted k ks)

-- ---- of the pairs so far those whose patches clash

module _ (of : Option Identity) (stored : Stored) where
  pub none_of : AreOf of stored [] []
  none_of = record {
    rising = none_rising;
    each = All-nil (IsClashing stored);
    among = All-nil (λ pair. IsAmong of pair.first pair.second);
    from = λ k at. at;
    all = λ i j at among clash. at;
  }

  module _ (passed rest : List (Identity × Identity)) (i j : Identity) (pairs : List Pair) (are : AreOf of stored passed pairs) where
    from_more : (k : Identity × Identity) → Contains (map identities_of pairs) k → Contains (passed ++ (i, j) ∷ []) k
    from_more k at = Contains-append_left passed ((i, j) ∷ []) k (are.from k at)

    -- the two do not clash, or are not asked for
    pub none_more_of : ¬ (IsAmong of i j × DoClash stored i j) → AreOf of stored (passed ++ (i, j) ∷ []) pairs
    none_more_of never = record {
      rising = are.rising;
      each = are.each;
      among = are.among;
      from = from_more;
      all = λ k l at among clash. elim (Contains-push_cases passed (i, j) (k, l) at) [
        | inl before ↦ are.all k l before among clash
        | inr same ↦ absurd (never (subst (λ (x : Identity × Identity). IsAmong of x.0 x.1 × DoClash stored x.0 x.1) (sym same) (among, clash)))
      ];
    }

    -- they clash, and are added
    pub one_more_of : (pair : Pair) → IsStrictlySortedBy pair_cmp (passed ++ (i, j) ∷ rest) → identities_of pair ≡ (i, j) → IsClashing stored pair → IsAmong of i j → AreOf of stored (passed ++ (i, j) ∷ []) (pairs ++ pair ∷ [])
    one_more_of pair sorted is clashing among = record {
      rising = subst (IsStrictlySortedBy pair_cmp) (sym pushed) (sorted_push pair_cmp (map identities_of pairs) (identities_of pair) are.rising below);
      each = All-push (IsClashing stored) pairs pair are.each clashing;
      among = All-push (λ p. IsAmong of p.first p.second) pairs pair are.among (subst (λ (x : Identity × Identity). IsAmong of x.0 x.1) (sym is) among);
      from = λ k at. elim (Contains-push_cases (map identities_of pairs) (identities_of pair) k (subst (λ l. Contains l k) pushed at)) [
        | inl before ↦ from_more k before
        | inr same ↦ subst (Contains (passed ++ (i, j) ∷ [])) (sym is ∙ same) (Contains-push passed (i, j))
      ];
      all = λ k l at asked clash. subst (λ ks. Contains ks (k, l)) (sym pushed) (elim (Contains-push_cases passed (i, j) (k, l) at) [
        | inl before ↦ Contains-append_left (map identities_of pairs) (identities_of pair ∷ []) (k, l) (are.all k l before asked clash)
        | inr same ↦ subst (Contains (map identities_of pairs ++ identities_of pair ∷ [])) (is ∙ same) (Contains-push (map identities_of pairs) (identities_of pair))
      ]);
    }
      where
        pushed : map identities_of (pairs ++ pair ∷ []) ≡ map identities_of pairs ++ identities_of pair ∷ []
        pushed = map-append identities_of pairs (pair ∷ [])

        below : (k : Identity × Identity) → Contains (map identities_of pairs) k → pair_cmp k (identities_of pair) ≡ Less
        below k at = subst (λ x. pair_cmp k x ≡ Less) (sym is) (below_next pair_cmp passed rest k (i, j) sorted (are.from k at))

  -- all kept pairs are passed
  pub all_of : (set : KeptPairs) (pairs : List Pair) → KnowsPairs stored set → AreOf of stored set.keys pairs → AreAllPairsOf of stored pairs
  all_of set pairs knows are = record {
    rising = are.rising;
    each = are.each;
    among = are.among;
    all = λ i j less among clash. are.all i j (knows.found i j less clash) among clash;
  }

-- ---- where a pair stands among those that are kept

module _ (passed rest : List (Identity × Identity)) (next : Identity × Identity) (sorted : IsStrictlySortedBy pair_cmp (passed ++ next ∷ rest)) where
  never_before : (k : Identity × Identity) → pair_cmp k next ≡ Less → ¬ Contains (next ∷ rest) k
  unfolding IsStrictlySortedBy
  never_before k less at = elim (Contains-cases next k rest at) [
    | inl same ↦ (let never : Less ≡ Equal = sym less ∙ ap (λ x. pair_cmp x next) (sym same) ∙ tied_itself pairs_total next in cc)
    | inr later ↦
        let back = above passed sorted k later in
        (let never : Less ≡ Equal = sym (pairs_total.trans k next k less back) ∙ tied_itself pairs_total k in cc)
  ]
    where
      above : (xs : List (Identity × Identity)) → IsStrictlySortedBy pair_cmp (xs ++ next ∷ rest) → (k : Identity × Identity) → Contains rest k → pair_cmp next k ≡ Less
      above [] sorted k at = less_each pair_cmp next k rest sorted.0 at
      above (x ∷ xs) sorted k at = above xs sorted.1 k at

  -- what comes before it is passed
  pub before_is_passed : (k : Identity × Identity) → Contains (passed ++ next ∷ rest) k → pair_cmp k next ≡ Less → Contains passed k
  before_is_passed k at less = elim (Contains-append_cases passed (next ∷ rest) k at) [ inl before ↦ before | inr after ↦ absurd (never_before k less after) ]

-- ---- what is found of two

pub do_clash : {stored : Stored} {i j : Identity} {p q : Document} → AreClashing stored i j p q → DoClash stored i j
do_clash {p = p} {q = q} two = record { one = p; other = q; at_first = two.at_first; at_second = two.at_second; clash = two.clash }

-- two are found exactly if they clash
pub tells_clash : {X D : Type 0} {Finds : X → Type 0} (found : Option X) → ((x : X) → Finds x → D) → MatchOption found (¬ D) Finds → (is_some found ≡ true) ↔ D
tells_clash None some never = (λ yes. absurd (true≢false (sym yes)), λ clash. absurd (never clash))
tells_clash (Some x) some is = (λ yes. some x is, λ clash. refl)

pub pair_with : {stored : Stored} {i j : Identity} {p q : Document} → AreClashing stored i j p q → identity_cmp i j ≡ Less → (places : List Path) → AreAllClashes p q places → IsClashing stored (record { first = i; second = j; places = places })
pair_with {p = p} {q = q} two less places all = record {
  one = p;
  other = q;
  at_first = two.at_first;
  at_second = two.at_second;
  in_order = less;
  conflicts = record { some = some_places p q places two.clash all; clashes = all };
}

abbrev pub no_identity : Identity
no_identity = record { sender = 0; number = 0 }

-- ---- the next of the pairs that are kept

pub one_there : {ks left more : List (Identity × Identity)} {Holds : List (Identity × Identity) → Type 0} {k : Identity × Identity} → (passed : Passed ks left Holds) → left ≡ k ∷ more → Contains ks k
one_there {more = more} {k = k} passed next = subst (λ l. Contains l k) (sym (Passed-next passed next)) (Contains-append_right passed.passed (k ∷ more) k (Contains-head k more))

-- one that was not chosen, or does not clash
pub none_more_among : (stored : Stored) (passed : List (Identity × Identity)) (k : Identity × Identity) (chosen : BTreeSet Identity)
    → ¬ (IsTrue (contains identity_cmp chosen k.0) × IsTrue (contains identity_cmp chosen k.1) × DoClash stored k.0 k.1) → NoneAmong stored passed chosen → NoneAmong stored (passed ++ k ∷ []) chosen
none_more_among stored passed k chosen never none i j at one other clash = elim (Contains-push_cases passed k (i, j) at) [
  | inl before ↦ none i j before one other clash
  | inr same ↦ never (subst (λ (x : Identity × Identity). IsTrue (contains identity_cmp chosen x.0) × IsTrue (contains identity_cmp chosen x.1) × DoClash stored x.0 x.1) (sym same) (one, other, clash))
]

-- ---- a pair is added to those that are kept

module _ (set now : KeptPairs) (i j : Identity) (is : now.keys ≡ insert_key pair_cmp set.keys (i, j)) where
  pub includes_more : Includes set now
  includes_more k at = subst (λ ks. Contains ks k) (sym is) (still_inserted (i, j) k set.keys at)

  pub ordered_more : identity_cmp i j ≡ Less → AreOrdered set → AreOrdered now
  ordered_more less ordered a b at = elim (inserted (i, j) (a, b) set.keys (subst (λ ks. Contains ks (a, b)) is at)) [
    | inl before ↦ ordered a b before
    | inr same ↦ subst (λ (x : Identity × Identity). identity_cmp x.0 x.1 ≡ Less) same less
  ]

  pub has_it : Contains now.keys (i, j)
  has_it = subst (λ ks. Contains ks (i, j)) (sym is) (has_inserted (i, j) set.keys)

  -- whichever of the two comes first
  pub has_both : identity_cmp i j ≡ Less → HasBoth now i j × HasBoth now j i
  has_both less = ((λ _. has_it, λ back. absurd (back_less i j less back)), (λ back. absurd (back_less i j less back), λ _. has_it))

-- one identity more of those that were compared
pub noted_more : (i : Identity) (stored : Stored) (p : Document) (passed : List Identity) (j : Identity) (set now : KeptPairs) → Includes set now → ((q : Document) → stored j ≡ Some q → ¬ Compatible p q → HasBoth now i j)
    → Notes i stored p passed set → Notes i stored p (passed ++ j ∷ []) now
noted_more i stored p passed j set now kept here noted k q at at_k differ = elim (Contains-push_cases passed j k at) [
  | inl before ↦ let both = noted k q before at_k differ in (λ less. kept (i, k) (both.0 less), λ less. kept (k, i) (both.1 less))
  | inr same ↦ subst (λ x. HasBoth now i x) same (here q (subst (λ x. stored x ≡ Some q) (sym same) at_k) differ)
]

-- of the identities so far each whose patch clashes with p is noted, and no pair is lost; `fits` says that there is none
pub record AreNoted (i : Identity) (stored : Stored) (p : Document) (before : KeptPairs) (fits : Bool) (now : KeptPairs) (passed : List Identity) : Type 0 where
  pub fits_all : IsTrue fits ↔ FitsAll stored passed p
  pub noted : Notes i stored p passed now
  pub kept : Includes before now
  pub ordered : AreOrdered before → AreOrdered now

module _ {i : Identity} {stored : Stored} {p : Document} {before : KeptPairs} {fits : Bool} {set : KeptPairs} (passed : List Identity) (j : Identity) (are : AreNoted i stored p before fits set passed) where
  -- the next has a patch that is compatible, or none
  pub noted_none : ((q : Document) → stored j ≡ Some q → Compatible p q) → AreNoted i stored p before fits set (passed ++ j ∷ [])
  noted_none agree = record {
    fits_all = (
      λ so k q at here. elim (Contains-push_cases passed j k at) [
        | inl early ↦ are.fits_all.0 so k q early here
        | inr same ↦ agree q (ap stored same ∙ here)
      ],
      λ all. are.fits_all.1 (λ k q at. all k q (Contains-append_left passed (j ∷ []) k at)),
    );
    noted = noted_more i stored p passed j set set (λ x here. here) (λ q here clash. absurd (clash (agree q here))) are.noted;
    kept = are.kept;
    ordered = are.ordered;
  }

  -- or one that clashes, and the pair is noted
  pub noted_one : {now : KeptPairs} (q : Document) → stored j ≡ Some q → ¬ Compatible p q → HasBoth now i j → Includes set now → (AreOrdered set → AreOrdered now) → AreNoted i stored p before false now (passed ++ j ∷ [])
  noted_one {now} q at clash both kept ordered = record {
    fits_all = (λ never. absurd (true≢false (sym never)), λ all. absurd (clash (all j q (Contains-push passed j) at)));
    noted = noted_more i stored p passed j set now kept (λ r here differ. both) are.noted;
    kept = λ x here. kept x (are.kept x here);
    ordered = λ were. ordered (are.ordered were);
  }
