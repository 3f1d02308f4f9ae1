-- Places in order, none within another: what a kept form has of a conflict, and patches that conflict there.
use Rattle.std.proofs.Common.{◌≡◌, ◌≢◌, ◌↔◌, ◌<◌, ◌≤◌, ◌+◌, ◌-◌, cond, inl, inr, ℕ, zero, suc, Bool, true, false, true≢false, IsTrue, List, [], ◌∷◌, ◌++◌, drop, get_or, length, is_some, nat_eq, replicate, take, MatchOption, Ok, Option, None, Some, slice_get, refl, sym, ap, ap₂, ◌∙◌, subst, arith, append-nil, length-append}
use Rattle.std.proofs.lemmas.Bool.{cases_lt}
use Rattle.std.proofs.lemmas.Cmp.{nat_cmp_total, nat_list_cmp_total, tied_itself}
use Rattle.std.proofs.lemmas.List.{drop_all, drop_more, length-replicate}
use Rattle.std.proofs.lemmas.List.Elements.{All-cons, All-nil, Contains-append_left, Contains-append_right, Contains-push}
use Rattle.std.proofs.lemmas.Option.{get_or_from_slice_get, slice_get-get_or, slice_get_within}
use Rattle.std.specs.Prelude.{⊤}
use Rattle.std.specs.List.{All, AllByRecursion, Contains}
use Rattle.std.specs.List.Sorted.{IsStrictlySortedBy}
use Rattle.std.specs.Ordering.{ordering_then}
use Rattle.std.specs.declared.cmp.Ordering.{Ordering}
use Rattle.std.specs.declared.cmp.Ordering.TheVariants.{Less, Equal, Greater}
use Rattle.mp_tree.specs.Document.{Document, IsDocument, find, flag, object, member, no_members, name_cmp}
use Rattle.mp_tree.specs.Look.{Path, nothing, plain, look, look_of}
use Rattle.mp_tree.specs.Text.{document_in}
use Rattle.mp_tree.specs.View.{document}
use Rattle.mp_tree.specs.declared.doc.Doc.{Doc}
use Rattle.mp_tree.proofs.Facts.{Contains-cases, Contains-head, Contains-nil, Contains-tail, is_name-self, name_cmp-self, same_from_cmp}
use Rattle.mp_pointer.specs.Bytes.{slash}
use Rattle.mp_pointer.specs.Spelling.{IsProperPrefix, escape, escaped_byte}
use Rattle.mp_pointer.specs.Weight.{place_weight}
use Rattle.mp_merge.specs.Clash.{Clash, path_cmp}
use Rattle.mp_merge.specs.Within.{places_weight}
use Rattle.mp_replica.specs.Held.{AreClashesAmong, AreFirstPlaces, HeldPatches, HeldPlaces, NoneIsPrefix, places_bound}
use Rattle.mp_replica.specs.Kept.{AreKeptPlaces, AreSomePlaces, ReadsPlaces}
use Rattle.mp_replica.specs.Laws.{HeldWereTaken, KeptAreTaken}
use Rattle.mp_replica.specs.Private.LawsBelow.{MergeLaws}
use Rattle.mp_replica.specs.Private.Places.{EachPrecedes, Precedes}
use Rattle.mp_replica.specs.Taking.{HasTaken}
use Rattle.mp_replica.proofs.PairsFound.{below_next}
use Rattle.mp_replica.proofs.Taking.{conflict_taken, if_conflict, none_taken, one_taken}

-- ---- one place precedes another

precedes_less : (w u : Path) → Precedes w u → path_cmp w u ≡ Less
precedes_less [] u before = absurd before
precedes_less (m ∷ w) [] before = absurd before
precedes_less (m ∷ w) (n ∷ u) (inl less) = ap (λ o. ordering_then o (path_cmp w u)) less
precedes_less (m ∷ w) (n ∷ u) (inr both) =
    ap (λ o. ordering_then o (path_cmp w u)) (ap (name_cmp m) (sym both.0) ∙ name_cmp-self m) ∙ precedes_less w u both.1

differ : (m n : List ℕ) → name_cmp m n ≡ Less → m ≢ n
differ m n less same = let never : Less ≡ Equal = sym less ∙ ap (name_cmp m) (sym same) ∙ name_cmp-self m in cc

precedes_no_prefix : (w u : Path) → Precedes w u → ¬ IsProperPrefix w u
precedes_no_prefix [] u before prefix = absurd before
precedes_no_prefix (m ∷ w) [] before prefix = absurd before
precedes_no_prefix (m ∷ w) (n ∷ u) (inl less) (k, rest, is) = differ m n less (let same : n ≡ m = cc in sym same)
precedes_no_prefix (m ∷ w) (n ∷ u) (inr both) (k, rest, is) = precedes_no_prefix w u both.1 (k, rest, let tail : u ≡ w ++ k ∷ rest = cc in tail)

precedes_not_after : (w u : Path) → Precedes w u → ¬ IsProperPrefix u w
precedes_not_after [] u before prefix = absurd before
precedes_not_after (m ∷ w) [] before prefix = absurd before
precedes_not_after (m ∷ w) (n ∷ u) (inl less) (k, rest, is) = differ m n less (let same : m ≡ n = cc in same)
precedes_not_after (m ∷ w) (n ∷ u) (inr both) (k, rest, is) = precedes_not_after w u both.1 (k, rest, let tail : w ≡ u ++ k ∷ rest = cc in tail)

precedes_on : (w u x : Path) → Precedes w u → Precedes u x → Precedes w x
precedes_on [] u x first second = absurd first
precedes_on (m ∷ w) [] x first second = absurd first
precedes_on (m ∷ w) (n ∷ u) [] first second = absurd second
precedes_on (m ∷ w) (n ∷ u) (k ∷ x) (inl first) (inl second) = inl (nat_list_cmp_total.trans m n k first second)
precedes_on (m ∷ w) (n ∷ u) (k ∷ x) (inl first) (inr second) = inl (subst (λ t. name_cmp m t ≡ Less) second.0 first)
precedes_on (m ∷ w) (n ∷ u) (k ∷ x) (inr first) (inl second) = inl (subst (λ t. name_cmp t k ≡ Less) (sym first.0) second)
precedes_on (m ∷ w) (n ∷ u) (k ∷ x) (inr first) (inr second) = inr (first.0 ∙ second.0, precedes_on w u x first.1 second.1)

parts_here : (m n : List ℕ) (w u : Path) (o : Ordering) → name_cmp m n ≡ o → path_cmp (m ∷ w) (n ∷ u) ≡ Less → (path_cmp w u ≡ Less → m ≡ n → Precedes w u) → Precedes (m ∷ w) (n ∷ u)
parts_here m n w u Less is less later = inl is
parts_here m n w u Equal is less later = let same = same_from_cmp m n is in inr (same, later (sym (ap (λ o. ordering_then o (path_cmp w u)) is) ∙ less) same)
parts_here m n w u Greater is less later = absurd (let never : Greater ≡ Less = sym (ap (λ o. ordering_then o (path_cmp w u)) is) ∙ less in cc)

less_precedes : (w u : Path) → path_cmp w u ≡ Less → ¬ IsProperPrefix w u → Precedes w u
less_precedes [] [] less none = absurd (let never : Equal ≡ Less = less in cc)
less_precedes [] (n ∷ u) less none = absurd (none (n, u, refl))
less_precedes (m ∷ w) [] less none = absurd (let never : Greater ≡ Less = less in cc)
less_precedes (m ∷ w) (n ∷ u) less none = parts_here m n w u (name_cmp m n) refl less (λ below same. less_precedes w u below (λ prefix. none (prefix.0, prefix.1, ap₂ (λ a b. a ∷ b) (sym same) prefix.2)))

-- past equal names
precedes_past : (m n : List ℕ) (w u : Path) → m ≡ n → Precedes (m ∷ w) (n ∷ u) ↔ Precedes w u
precedes_past m n w u same = (λ before. elim before [ inl less ↦ absurd (differ m n less same) | inr both ↦ both.1 ], λ before. inr (same, before))

-- ---- name by name

never_to_end : (w : Path) → ¬ Precedes w []
never_to_end [] before = before
never_to_end (m ∷ w) before = before

past_end : (u : Path) (k : ℕ) → slice_get u k ≡ None → drop k u ≡ []
past_end u k none = elim (cases_lt k (length u)) [
  | inl below ↦ absurd (let never : None ≡ Some (get_or u k []) = sym none ∙ slice_get-get_or u k [] below in cc)
  | inr past ↦ drop_all k u (omega arith)
]

next_name : (u : Path) (k : ℕ) (n : List ℕ) → slice_get u k ≡ Some n → drop k u ≡ n ∷ drop (k + 1) u
next_name u k n at = drop_more u k [] (slice_get_within u k n at) ∙ ap (λ x. x ∷ drop (k + 1) u) (get_or_from_slice_get u k n [] at)

module _ (w u : Path) (k : ℕ) (so_far : Precedes w u ↔ Precedes (drop k w) (drop k u)) where
  pub ended_there : slice_get u k ≡ None → ¬ Precedes w u
  ended_there none before = never_to_end (drop k w) (subst (Precedes (drop k w)) (past_end u k none) (so_far.0 before))

  pub ended_here : drop k w ≡ [] → ¬ Precedes w u
  ended_here none before = subst (λ x. Precedes x (drop k u)) none (so_far.0 before)

  pub none_here : slice_get w k ≡ None → ¬ Precedes w u
  none_here none = ended_here (past_end w k none)

  module _ (m n : List ℕ) (here : slice_get w k ≡ Some m) (there : slice_get u k ≡ Some n) where
    parted : Precedes (drop k w) (drop k u) ↔ Precedes (m ∷ drop (k + 1) w) (n ∷ drop (k + 1) u)
    parted = rw (next_name w k m here, next_name u k n there) (λ is. is, λ is. is)

    pub lower_here : name_cmp m n ≡ Less → Precedes w u
    lower_here less = so_far.1 (parted.1 (inl less))

    pub higher_here : name_cmp m n ≡ Greater → ¬ Precedes w u
    higher_here greater before = elim (parted.0 (so_far.0 before)) [
      | inl less ↦ (let never : Less ≡ Greater = sym less ∙ greater in cc)
      | inr both ↦ (let never : Equal ≡ Greater = sym (name_cmp-self m) ∙ ap (name_cmp m) both.0 ∙ greater in cc)
    ]

    pub same_here : name_cmp m n ≡ Equal → Precedes w u ↔ Precedes (drop (k + 1) w) (drop (k + 1) u)
    same_here equal =
        let past = precedes_past m n (drop (k + 1) w) (drop (k + 1) u) (same_from_cmp m n equal) in
        (λ before. past.0 (parted.0 (so_far.0 before)), λ before. so_far.1 (parted.1 (past.1 before)))

-- ---- each precedes the next

precedes_each : (w : Path) (places : List Path) → EachPrecedes (w ∷ places) → (u : Path) → Contains places u → Precedes w u
precedes_each w [] chain u at = absurd (Contains-nil u at)
precedes_each w (x ∷ places) chain u at = elim (Contains-cases x u places at) [
  | inl same ↦ subst (Precedes w) same chain.0
  | inr there ↦ precedes_on w x u chain.0 (precedes_each x places chain.1 u there)
]

chain_tail : (w : Path) (places : List Path) → EachPrecedes (w ∷ places) → EachPrecedes places
chain_tail w [] chain = tt
chain_tail w (u ∷ places) chain = chain.1

all_above : (w : Path) (places : List Path) → ((u : Path) → Contains places u → path_cmp w u ≡ Less) → AllByRecursion (λ u. path_cmp w u ≡ Less) places
all_above w [] each = tt
all_above w (u ∷ places) each = (each u (Contains-head u places), all_above w places (λ x at. each x (Contains-tail u x places at)))

pub chain_rising : (places : List Path) → EachPrecedes places → IsStrictlySortedBy path_cmp places
unfolding IsStrictlySortedBy
chain_rising [] chain = tt
chain_rising (w ∷ places) chain = (all_above w places (λ u at. precedes_less w u (precedes_each w places chain u at)), chain_rising places (chain_tail w places chain))

never_itself : (w : Path) → ¬ IsProperPrefix w w
never_itself w (n, rest, is) = omega (arith, ap length is, length-append w (n ∷ rest))

pub chain_apart : (places : List Path) → EachPrecedes places → NoneIsPrefix places
chain_apart [] chain w u at_w at_u prefix = Contains-nil w at_w
chain_apart (x ∷ places) chain w u at_w at_u prefix = elim (Contains-cases x w places at_w) [
  | inl here ↦ elim (Contains-cases x u places at_u) [
    | inl also ↦ never_itself w (subst (IsProperPrefix w) (sym also ∙ here) prefix)
    | inr there ↦ precedes_no_prefix x u (precedes_each x places chain u there) (subst (λ t. IsProperPrefix t u) (sym here) prefix)
  ]
  | inr there ↦ elim (Contains-cases x u places at_u) [
    | inl here ↦ precedes_not_after x w (precedes_each x places chain w there) (subst (IsProperPrefix w) (sym here) prefix)
    | inr also ↦ chain_apart places (chain_tail x places chain) w u there also prefix
  ]
]

pub rising_chain : (places : List Path) → IsStrictlySortedBy path_cmp places → NoneIsPrefix places → EachPrecedes places
unfolding IsStrictlySortedBy
rising_chain [] rising apart = tt
rising_chain (w ∷ []) rising apart = tt
rising_chain (w ∷ u ∷ places) rising apart = (
  less_precedes w u rising.0.0 (apart w u (Contains-head w (u ∷ places)) (Contains-tail w u (u ∷ places) (Contains-head u places))),
  rising_chain (u ∷ places) rising.1 (λ x y at_x at_y. apart x y (Contains-tail w x (u ∷ places) at_x) (Contains-tail w y (u ∷ places) at_y)),
)

-- one place more of a list
chain_more : (places : List Path) (k : ℕ) (d e : Path) → suc k < length places → EachPrecedes (take (suc k) places) → Precedes (get_or places k d) (get_or places (suc k) e) → EachPrecedes (take (suc (suc k)) places)
chain_more [] k d e below chain next = absurd (omega (arith, below))
chain_more (w ∷ []) k d e below chain next = absurd (omega (arith, below))
chain_more (w ∷ u ∷ places) zero d e below chain next = (next, tt)
chain_more (w ∷ u ∷ places) (suc k) d e below chain next = (chain.0, chain_more (u ∷ places) k d e (omega arith) chain.1 next)

chain_at : (places : List Path) (k : ℕ) (d e : Path) → suc k < length places → EachPrecedes places → Precedes (get_or places k d) (get_or places (suc k) e)
chain_at [] k d e below chain = absurd (omega (arith, below))
chain_at (w ∷ []) k d e below chain = absurd (omega (arith, below))
chain_at (w ∷ u ∷ places) zero d e below chain = chain.0
chain_at (w ∷ u ∷ places) (suc k) d e below chain = chain_at (u ∷ places) k d e (omega arith) chain.1

pub chain_one : (places : List Path) → EachPrecedes (take 1 places)
chain_one [] = tt
chain_one (w ∷ places) = tt

module _ (places : List Path) (d e : Path) where
  pub chain_on : (n : ℕ) → 1 ≤ n → n < length places → EachPrecedes (take n places) → Precedes (get_or places (n - 1) d) (get_or places n e) → EachPrecedes (take (n + 1) places)
  chain_on zero some below chain next = absurd (omega (arith, some))
  chain_on (suc k) some below chain next =
      let on : suc (suc k) ≡ suc k + 1 = omega arith in
      let back : suc k - 1 ≡ k = omega arith in
      subst (λ m. EachPrecedes (take m places)) on (chain_more places k d e below chain (subst (λ m. Precedes (get_or places m d) (get_or places (suc k) e)) back next))

  pub chain_here : (n : ℕ) → 1 ≤ n → n < length places → EachPrecedes places → Precedes (get_or places (n - 1) d) (get_or places n e)
  chain_here zero some below chain = absurd (omega (arith, some))
  chain_here (suc k) some below chain =
      let back : k ≡ suc k - 1 = omega arith in
      subst (λ m. Precedes (get_or places m d) (get_or places (suc k) e)) back (chain_at places k d e below chain)

-- the whole document is in no such list but the first
first_alone : (w : Path) (places : List Path) → EachPrecedes (w ∷ places) → Contains (w ∷ places) [] → w ≡ []
first_alone w places chain at = elim (Contains-cases w [] places at) [ inl same ↦ same | inr there ↦ absurd (never_to_end w (precedes_each w places chain [] there)) ]

-- ---- what a kept form may have

abbrev held_so : List Path → Bool → HeldPlaces
held_so places more = record { places = places; more = more }

pub none_kept : (places : List Path) (more : Bool) → places ≡ [] → IsTrue more ↔ AreKeptPlaces (held_so places more)
none_kept [] more empty = (
  λ so. record {
    some = inl so;
    rising = chain_rising [] tt;
    apart = chain_apart [] tt;
    within = omega arith;
    only = λ at. absurd (Contains-nil [] at);
  },
  λ kept. elim kept.some [ inl so ↦ so | inr some ↦ absurd (some refl) ],
)
none_kept (w ∷ places) more empty = absurd (let never = empty in cc)

pub some_kept : (places : List Path) (more : Bool) → places ≢ [] → (IsTrue more → (d : Path) × (get_or places 0 d ≢ [])) → EachPrecedes places → places_weight places ≤ places_bound → AreKeptPlaces (held_so places more)
some_kept [] more some first each within = absurd (some refl)
some_kept (w ∷ places) more some first each within = record {
  some = inr some;
  rising = chain_rising (w ∷ places) each;
  apart = chain_apart (w ∷ places) each;
  within = within;
  only = λ at so. (first so).1 (first_alone w places each at);
}

pub weighs_within : (o : Option ℕ) (bound weight : ℕ) → MatchOption o (bound < weight) (λ left. left + weight ≡ bound) → (is_some o ≡ true) ↔ (weight ≤ bound)
weighs_within None bound weight over = (λ never. absurd (true≢false (sym never)), λ within. absurd (omega (arith, over, within)))
weighs_within (Some left) bound weight is = (λ so. omega (arith, is), λ within. refl)

-- ---- what is held of a conflict is such

front_rising : (places rest : List Path) → IsStrictlySortedBy path_cmp (places ++ rest) → IsStrictlySortedBy path_cmp places
unfolding IsStrictlySortedBy
front_rising [] rest rising = tt
front_rising (w ∷ places) rest rising = (front w places rising.0, front_rising places rest rising.1)
  where
    front : (w : Path) (us : List Path) → AllByRecursion (λ u. path_cmp w u ≡ Less) (us ++ rest) → AllByRecursion (λ u. path_cmp w u ≡ Less) us
    front w [] all = tt
    front w (u ∷ us) all = (all.0, front w us all.1)

held_are_kept : (r : HeldPatches) (taken : List Document) (held : HeldPlaces) → r.places ≡ Some held → HasTaken r taken → AreKeptPlaces held
held_are_kept r taken held is has =
    let conflict = if_conflict r taken held is has in
    let first = conflict.first in
    let clashes = conflict.clashes in
    let rising = subst (IsStrictlySortedBy path_cmp) first.whole clashes.rising in
    let apart = subst NoneIsPrefix first.whole clashes.apart in
    record {
      some = some held.places refl first clashes;
      rising = front_rising held.places first.rest rising;
      apart = λ w u at_w at_u. apart w u (Contains-append_left held.places first.rest w at_w) (Contains-append_left held.places first.rest u at_u);
      within = first.within;
      only = λ at so. only first.rest rising apart at (first.more.0 so);
    }
  where
    some : (places : List Path) → held.places ≡ places → {all : List Path} → AreFirstPlaces all held → AreClashesAmong taken all → AreSomePlaces held
    some [] none first clashes = inl (first.more.1 (λ empty. clashes.some (first.whole ∙ ap₂ (λ a b. a ++ b) none empty)))
    some (w ∷ places) is first clashes = inr (λ none. let never : [] ≡ w ∷ places = sym none ∙ is in cc)

    only : (rest : List Path) → IsStrictlySortedBy path_cmp (held.places ++ rest) → NoneIsPrefix (held.places ++ rest) → Contains held.places [] → rest ≢ [] → ⊥
    only [] rising apart at some = some refl
    only ([] ∷ rest) rising apart at some = let never : Equal ≡ Less = below_next path_cmp held.places rest [] [] rising at in cc
    only ((n ∷ w) ∷ rest) rising apart at some =
        apart [] (n ∷ w) (Contains-append_left held.places ((n ∷ w) ∷ rest) [] at) (Contains-append_right held.places ((n ∷ w) ∷ rest) (n ∷ w) (Contains-head (n ∷ w) rest)) (n, w, refl)

pub places_are_kept : KeptAreTaken
places_are_kept r taken has = by r.places refl
  where
    by : (o : Option HeldPlaces) → r.places ≡ o → MatchOption o ⊤ AreKeptPlaces
    by None is = tt
    by (Some held) is = held_are_kept r taken held is has

-- ---- and patches conflict there

-- the document at that path alone
abbrev at_path : Path → Document → Document
at_path [] d = d
at_path (n ∷ w) d = object (member n (at_path w d) no_members)

is_document : (w : Path) (d : Document) → IsDocument d → IsDocument (at_path w d)
is_document [] d good = good
is_document (n ∷ w) d good = (is_document w d good, tt, tt)

found_there : (n : List ℕ) (d : Document) → find n (member n d no_members) ≡ Some d
found_there n d = ap (λ b. cond b (Some d) None) (is_name-self n)

look_there : (w : Path) (b : Bool) → look (at_path w (flag b)) w ≡ plain (flag b)
look_there [] b = refl
look_there (n ∷ w) b = ap (λ o. look_of o w) (found_there n (at_path w (flag b))) ∙ look_there w b

clash_there : (w : Path) → Clash (at_path w (flag true)) (at_path w (flag false)) w
clash_there w = record {
  first = λ none. let never : plain (flag true) ≡ nothing = sym (look_there w true) ∙ none in cc;
  second = λ none. let never : plain (flag false) ≡ nothing = sym (look_there w false) ∙ none in cc;
  differ = λ same. let never : plain (flag true) ≡ plain (flag false) = sym (look_there w true) ∙ same ∙ look_there w false in true≢false (cc);
}

-- two patches for each place
abbrev pub patches_at : List Path → List Document
patches_at [] = []
patches_at (w ∷ places) = at_path w (flag true) ∷ at_path w (flag false) ∷ patches_at places

are_documents : (places : List Path) → All IsDocument (patches_at places)
are_documents [] = All-nil IsDocument
are_documents (w ∷ places) =
    All-cons IsDocument (at_path w (flag true)) (at_path w (flag false) ∷ patches_at places) (is_document w (flag true) tt) (All-cons IsDocument (at_path w (flag false)) (patches_at places) (is_document w (flag false) tt) (are_documents places))

clash_each : (places : List Path) (w : Path) → Contains places w → (p : Document) × (q : Document) × Contains (patches_at places) p × Contains (patches_at places) q × Clash p q w
clash_each [] w at = absurd (Contains-nil w at)
clash_each (u ∷ places) w at = elim (Contains-cases u w places at) [
  | inl same ↦ (
    at_path u (flag true),
    at_path u (flag false),
    Contains-head (at_path u (flag true)) (at_path u (flag false) ∷ patches_at places),
    Contains-tail (at_path u (flag true)) (at_path u (flag false)) (at_path u (flag false) ∷ patches_at places) (Contains-head (at_path u (flag false)) (patches_at places)),
    subst (Clash (at_path u (flag true)) (at_path u (flag false))) same (clash_there u),
  )
  | inr there ↦
      let found = clash_each places w there in
      let past = λ (p : Document) (here : Contains (patches_at places) p). Contains-tail (at_path u (flag true)) p (at_path u (flag false) ∷ patches_at places) (Contains-tail (at_path u (flag false)) p (patches_at places) here) in
      (found.0, found.1, past found.0 found.2, past found.1 found.3, found.4)
]

-- a place after all of them, which weighs more than is held
abbrev some_name : ℕ → List ℕ
some_name k = 97 ∷ replicate k 97

abbrev first_name : Path → List ℕ
first_name [] = []
first_name (n ∷ w) = n

abbrev last_of : List Path → Path
last_of [] = []
last_of (w ∷ []) = w
last_of (w ∷ u ∷ places) = last_of (u ∷ places)

longer_above : (n : List ℕ) (c : ℕ) (m : List ℕ) → name_cmp n (n ++ c ∷ m) ≡ Less
longer_above [] c m = refl
longer_above (b ∷ n) c m = ap (λ o. ordering_then o (name_cmp n (n ++ c ∷ m))) (tied_itself nat_cmp_total b) ∙ longer_above n c m

after_last : (w : Path) (k : ℕ) → w ≢ [] → Precedes w ((first_name w ++ some_name k) ∷ [])
after_last [] k some = absurd (some refl)
after_last (n ∷ w) k some = inl (longer_above n 97 (replicate k 97))

chain_push : (places : List Path) (u : Path) → EachPrecedes places → (places ≢ [] → Precedes (last_of places) u) → EachPrecedes (places ++ u ∷ [])
chain_push [] u chain last = tt
chain_push (w ∷ []) u chain last = (last (λ none. let never = none in cc), tt)
chain_push (w ∷ x ∷ places) u chain last = (chain.0, chain_push (x ∷ places) u chain.1 (λ some. last (λ none. let never = none in cc)))

last_there : (w : Path) (places : List Path) → Contains (w ∷ places) (last_of (w ∷ places))
last_there w [] = Contains-head w []
last_there w (u ∷ places) = Contains-tail w (last_of (u ∷ places)) (u ∷ places) (last_there u places)

escaped_some : (c : ℕ) → 1 ≤ length (escaped_byte c)
escaped_some c = by (nat_eq c 126) refl
  where
    by : (b : Bool) → nat_eq c 126 ≡ b → 1 ≤ length (escaped_byte c)
    by true is = rw is (omega arith)
    by false is = more (nat_eq c 47) refl
      where
        more : (d : Bool) → nat_eq c 47 ≡ d → 1 ≤ length (escaped_byte c)
        more true also = rw (is, also) (omega arith)
        more false also = rw (is, also) (omega arith)

escaped_long : (n : List ℕ) → length n ≤ length (escape n)
escaped_long [] = omega arith
escaped_long (c ∷ n) = omega (arith, escaped_some c, escaped_long n, length-append (escaped_byte c) (escape n))

weight_long : (n : List ℕ) → length n ≤ place_weight (n ∷ [])
weight_long n = let long = length-append (slash ∷ escape n) [] in omega (arith, long, escaped_long n)

taken_there : (r : HeldPatches) (held : HeldPlaces) → r.places ≡ Some held → r.joined ≡ None → r.pending ≡ None → AreKeptPlaces held → (taken : List Document) × HasTaken r taken
taken_there r held is no_join settled kept = by held.more refl
  where
    chain : EachPrecedes held.places
    chain = rising_chain held.places kept.rising kept.apart

    among : (places : List Path) → places ≢ [] → EachPrecedes places → AreClashesAmong (patches_at places) places
    among places some each = record { some = some; rising = chain_rising places each; apart = chain_apart places each; each = clash_each places }

    last : Path
    last = (first_name (last_of held.places) ++ some_name 65536) ∷ []

    not_root : (places : List Path) → held.places ≡ places → held.more ≡ true → places ≢ [] → last_of places ≢ []
    not_root [] are more some = absurd (some refl)
    not_root (w ∷ places) are more some = λ none.
        kept.only (subst (λ l. Contains l []) (sym are) (subst (Contains (w ∷ places)) none (last_there w places))) more

    long : places_bound < places_weight held.places + place_weight last
    long =
        let name = first_name (last_of held.places) ++ some_name 65536 in
        let byte : ℕ = 97 in
        omega (arith, weight_long name, length-append (first_name (last_of held.places)) (some_name 65536), length-replicate 65536 byte)

    by : (more : Bool) → held.more ≡ more → (taken : List Document) × HasTaken r taken
    by false none =
        let some : held.places ≢ [] = λ empty. elim kept.some [ inl so ↦ true≢false (sym so ∙ none) | inr some ↦ some empty ] in (
          patches_at held.places,
          conflict_taken r (patches_at held.places) held held.places is no_join settled (are_documents held.places) (among held.places some chain) (record {
            rest = [];
            whole = sym (append-nil held.places);
            more = (λ so. absurd (true≢false (sym so ∙ none)), λ some. absurd (some refl));
            within = kept.within;
            longest = λ w others is. let never = is in absurd (cc);
          }),
        )
    by true so =
        let all = held.places ++ last ∷ [] in
        let each = chain_push held.places last chain (λ some. after_last (last_of held.places) 65536 (not_root held.places refl so some)) in (
          patches_at all,
          conflict_taken r (patches_at all) held all is no_join settled (are_documents all) (among all (λ empty. Contains-nil last (subst (λ (l : List Path). Contains l last) empty (Contains-push held.places last))) each) (record {
            rest = last ∷ [];
            whole = refl;
            more = (λ _. λ empty. let never = empty in cc, λ _. so);
            within = kept.within;
            longest = λ w others is. inr (subst (λ u. places_bound < places_weight held.places + place_weight u) (let same : last ≡ w = cc in same) long);
          }),
        )

pub held_were_taken : MergeLaws → HeldWereTaken
held_were_taken laws text r held = by r.places r.joined refl refl held.1
  where
    by : (o : Option HeldPlaces) (m : Option Doc) → r.places ≡ o → r.joined ≡ m
        → MatchOption o (MatchOption m (text ≡ []) (λ j. document_in text ≡ Ok (document j))) (λ places. ReadsPlaces text places × (m ≡ None)) → (taken : List Document) × HasTaken r taken
    by None None none no_join is = ([], none_taken laws r no_join held.0 none)
    by None (Some j) none joined is = (document j ∷ [], one_taken laws r j none joined held.0)
    by (Some places) m some joined is = taken_there r places some (joined ∙ is.1) held.0 is.0.3
