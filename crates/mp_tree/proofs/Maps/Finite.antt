-- Members whose names ascend are a finite map: equal look-ups make them equal.
use Rattle.std.proofs.Common.{◌≡◌, ◌≢◌, ℕ, List, [], ◌∷◌, Ordering, Less, Equal, Greater, is_eq, false, cond, Some, None, refl, sym, ap, ◌∙◌, subst, Bool, true, Option}
use Rattle.std.specs.List.{AllByRecursion}
use Rattle.std.specs.List.Sorted.{IsStrictlySortedBy}
use Rattle.std.specs.Map.{keys_of, lookup}
use Rattle.std.specs.Ordering.{match_ordering}
use Rattle.mp_tree.specs.Document.{Document, Members, no_members, member, name_cmp, is_name, find, put, without, IsBelow, IsDocument, IsMap}
use Rattle.mp_tree.proofs.Maps.Names.{is_name-self, same_from_cmp, same_name, is_name-less, above_is_below, below-trans, cases_same}
use Rattle.mp_tree.proofs.Maps.EachMember.{each_after_put, each_after_without}
use Rattle.mp_tree.proofs.Maps.Ascending.{entries_same}

-- ---- a name below all others

pub find-below : (n : List ℕ) (ms : Members) → IsBelow n ms → find n ms ≡ None
find-below n no_members below = refl
find-below n (member m d ms) below = rw (is_name-less n m below.0) (find-below n ms below.1)

pub IsBelow-trans : (n m : List ℕ) (ms : Members) → name_cmp n m ≡ Less → IsBelow m ms → IsBelow n ms
IsBelow-trans n m no_members less below = tt
IsBelow-trans n m (member k d ms) less below = (below-trans n m k less below.0, IsBelow-trans n m ms less below.1)

pub IsBelow-put : (n k : List ℕ) (d : Document) (ms : Members) → name_cmp n k ≡ Less → IsBelow n ms → IsBelow n (put k d ms)
IsBelow-put n = each_after_put (λ m e. name_cmp n m ≡ Less) (IsBelow n) (λ m e ms. (λ h. h, λ h. h))

IsMap-put_at : (o : Ordering) (k m : List ℕ) (d e : Document) (ms : Members) → name_cmp k m ≡ o → IsDocument d → IsMap (member m e ms) → IsMap (put k d ms)
    → IsMap (match_ordering o (member k d (member m e ms)) (member k d ms) (member m e (put k d ms)))
IsMap-put_at Less k m d e ms is good map later = (good, (is, IsBelow-trans k m ms is map.1), map)
IsMap-put_at Equal k m d e ms is good map later = (good, subst (λ n. IsBelow n ms) (sym (same_from_cmp k m is)) map.1, map.2)
IsMap-put_at Greater k m d e ms is good map later = (map.0, IsBelow-put m k d ms (above_is_below k m is) map.1, later)

pub IsMap-put : (k : List ℕ) (d : Document) (ms : Members) → IsDocument d → IsMap ms → IsMap (put k d ms)
IsMap-put k d no_members good map = (good, tt, tt)
IsMap-put k d (member m e ms) good map = IsMap-put_at (name_cmp k m) k m d e ms refl good map (IsMap-put k d ms good map.2)

-- ---- look-ups after a change

find-put_at : (o : Ordering) (q k m : List ℕ) (d e : Document) (ms : Members) → name_cmp k m ≡ o → find q (put k d ms) ≡ cond (is_name q k) (Some d) (find q ms)
    → find q (match_ordering o (member k d (member m e ms)) (member k d ms) (member m e (put k d ms))) ≡ cond (is_name q k) (Some d) (find q (member m e ms))
find-put_at Less q k m d e ms is later = refl
find-put_at Equal q k m d e ms is later =
    let same = same_from_cmp k m is in
    cases_same q k (λ here. rw (here, is_name-self) refl) (λ other. let apart : is_name q m ≡ false = subst (λ n. is_name q n ≡ false) same other in rw (other, apart) refl)
find-put_at Greater q k m d e ms is later =
    cases_same q k
    (λ here. let apart : is_name q m ≡ false = subst (λ n. is_name n m ≡ false) (sym here) (ap is_eq is) in rw apart later)
    (λ other. let plain : find q (put k d ms) ≡ find q ms = later ∙ ap (λ b. cond b (Some d) (find q ms)) other in rw other (ap (λ r. cond (is_name q m) (Some e) r) plain))

pub find-put : (q k : List ℕ) (d : Document) (ms : Members) → find q (put k d ms) ≡ cond (is_name q k) (Some d) (find q ms)
find-put q k d no_members = refl
find-put q k d (member m e ms) = find-put_at (name_cmp k m) q k m d e ms refl (find-put q k d ms)

-- ---- without a name

IsBelow-without : (n k : List ℕ) (ms : Members) → IsBelow n ms → IsBelow n (without k ms)
IsBelow-without n = each_after_without (λ m e. name_cmp n m ≡ Less) (IsBelow n) (λ m e ms. (λ h. h, λ h. h))

pub IsMap-without : (k : List ℕ) (ms : Members) → IsMap ms → IsMap (without k ms)
IsMap-without k no_members map = tt
IsMap-without k (member m d ms) map = picked (is_name k m) (IsMap-without k ms map.2)
  where
    picked : (b : Bool) → IsMap (without k ms) → IsMap (cond b ms (member m d (without k ms)))
    picked true later = map.2
    picked false later = (map.0, IsBelow-without m k ms map.1, later)

no_choice : (b : Bool) → cond {A = Option Document} b None None ≡ None
no_choice true = refl
no_choice false = refl

find-without_at : (b : Bool) (q k m : List ℕ) (d : Document) (ms : Members) → is_name k m ≡ b → IsBelow m ms → find q (without k ms) ≡ cond (is_name q k) None (find q ms)
    → find q (cond b ms (member m d (without k ms))) ≡ cond (is_name q k) None (find q (member m d ms))
find-without_at true q k m d ms is below later =
    let same = same_name k m is in
    cases_same q k
    (λ here. rw (here, is_name-self) (subst (λ n. find n ms ≡ None) (sym same) (find-below m ms below)))
    (λ other. let apart : is_name q m ≡ false = subst (λ n. is_name q n ≡ false) same other in rw (other, apart) refl)
find-without_at false q k m d ms is below later =
    cases_same q k
    (λ here. let apart : is_name q m ≡ false = subst (λ n. is_name n m ≡ false) (sym here) is in rw apart later)
    (λ other. let plain : find q (without k ms) ≡ find q ms = later ∙ ap (λ b. cond b None (find q ms)) other in rw other (ap (λ r. cond (is_name q m) (Some d) r) plain))

pub find-without : (q k : List ℕ) (ms : Members) → IsMap ms → find q (without k ms) ≡ cond (is_name q k) None (find q ms)
find-without q k no_members map = sym (no_choice (is_name q k))
find-without q k (member m d ms) map = find-without_at (is_name k m) q k m d ms refl map.1 (find-without q k ms map.2)

-- ---- equal look-ups

pub find-here : (n : List ℕ) (d : Document) (ms : Members) → find n (member n d ms) ≡ Some d
find-here n d ms = rw (is_name-self n)

abbrev pub pairs_of : Members → List (List ℕ × Document)
pairs_of no_members = []
pairs_of (member n d ms) = (n, d) ∷ pairs_of ms

abbrev listed : List (List ℕ × Document) → Members
listed [] = no_members
listed (p ∷ ps) = member p.0 p.1 (listed ps)

listed-pairs_of : (ms : Members) → listed (pairs_of ms) ≡ ms
listed-pairs_of no_members = refl
listed-pairs_of (member n d ms) = ap (member n d) (listed-pairs_of ms)

lookup-pairs_of : (q : List ℕ) (ms : Members) → lookup (is_name q) (pairs_of ms) ≡ find q ms
lookup-pairs_of q no_members = refl
lookup-pairs_of q (member n d ms) = ap (cond (is_name q n) (Some d)) (lookup-pairs_of q ms)

all_above : (n : List ℕ) (ms : Members) → IsBelow n ms → AllByRecursion (λ m. name_cmp n m ≡ Less) (keys_of (pairs_of ms))
all_above n no_members below = tt
all_above n (member m d ms) below = (below.0, all_above n ms below.1)

ascending : (ms : Members) → IsMap ms → IsStrictlySortedBy name_cmp (keys_of (pairs_of ms))
unfolding IsStrictlySortedBy
ascending no_members map = tt
ascending (member n d ms) map = (all_above n ms map.1, ascending ms map.2)

pub members_same : (ms es : Members) → IsMap ms → IsMap es → ((q : List ℕ) → find q ms ≡ find q es) → ms ≡ es
members_same ms es a b same =
    let pairs = entries_same (pairs_of ms) (pairs_of es) (ascending ms a) (ascending es b) (λ q. lookup-pairs_of q ms ∙ same q ∙ sym (lookup-pairs_of q es)) in
    sym (listed-pairs_of ms) ∙ ap listed pairs ∙ listed-pairs_of es

pub find-put_same : (k : List ℕ) (y : Document) (ms : Members) → find k (put k y ms) ≡ Some y
find-put_same k y ms = find-put k k y ms ∙ ap (λ b. cond b (Some y) (find k ms)) (is_name-self k)

pub find-put_other : (q k : List ℕ) (y : Document) (ms : Members) → q ≢ k → find q (put k y ms) ≡ find q ms
find-put_other q k y ms other =
    find-put q k y ms
    ∙ cases_same q k (λ same. absurd (other same)) (λ apart. ap (λ b. cond b (Some y) (find q ms)) apart)
