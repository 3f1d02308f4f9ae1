-- The depth of a list or a map is that of its deepest part.
use Rattle.std.proofs.Common.{◌≡◌, ◌≤◌, ◌<◌, ℕ, zero, suc, max, List, [], ◌∷◌, ◌++◌, length, get_or, Bool, true, false, cond, Some, String, Global, string_bytes, string_cmp, refl, ap, ◌∙◌, subst, arith}
use Rattle.std.specs.List.Sorted.{IsStrictlySortedBy}
use Rattle.std.specs.Map.{keys_of, values_of}
use Rattle.mp_tree.specs.Document.{Document, Members, no_members, member, is_name, find, put, without, depth, items_depth, members_depth}
use Rattle.mp_tree.specs.View.{items_by, members_by}
use Rattle.mp_tree.proofs.Maps.EachMember.{each_after_put, each_after_without}
use Rattle.mp_tree.proofs.Texts.IntoData.{members-cons-by}
use Rattle.mp_tree.proofs.Documents.Elements.{items-append-by, depth-append}
use Rattle.mp_tree.proofs.Passed.{Passed, Passed-next}

module _ {V : Type 0} (f : V → Document) where
  pub items_depth_from_each-by : (ds : List V) (n : ℕ) → ((k : ℕ) (d : V) → k < length ds → depth (f (get_or ds k d)) ≤ n) → items_depth (items_by f ds) ≤ n
  items_depth_from_each-by [] n each = omega arith
  items_depth_from_each-by (d ∷ ds) n each = omega (arith, each zero d (omega arith), items_depth_from_each-by ds n (λ k e below. each (suc k) e (omega arith)))

  pub items_depth-append-by : (ds es : List V) → items_depth (items_by f (ds ++ es)) ≡ max (items_depth (items_by f ds)) (items_depth (items_by f es))
  items_depth-append-by ds es = ap items_depth (items-append-by f ds es) ∙ depth-append (items_by f ds) (items_by f es)

  -- in a map each name stands once, so no value is hidden by another
  pub members_depth-by : (es : List (String Global × V)) → IsStrictlySortedBy string_cmp (keys_of es) → members_depth (members_by f es) ≡ items_depth (items_by f (values_of es))
  unfolding IsStrictlySortedBy
  members_depth-by [] ascending = refl
  members_depth-by (e ∷ es) ascending = ap members_depth (members-cons-by f e es ascending) ∙ ap (λ n. max (depth (f e.1)) n) (members_depth-by es ascending.1)

  pub item_depth-by : (ds : List V) (k : ℕ) (d : V) → k < length ds → depth (f (get_or ds k d)) ≤ items_depth (items_by f ds)
  item_depth-by [] k d h = absurd (omega arith)
  item_depth-by (e ∷ ds) zero d h = omega arith
  item_depth-by (e ∷ ds) (suc k) d h = omega (arith, item_depth-by ds k d (omega arith))

  -- what a loop over a list comes to is no deeper than the list
  pub item_within : {given all : List V} {k : ℕ} {d : V} → d ≡ get_or given k d → k < length given → given ≡ all → depth (f d) ≤ items_depth (items_by f all)
  item_within {given = given} {k = k} {d = d} is below same = omega (arith, item_depth-by given k d below, ap (λ e. depth (f e)) is, ap (λ ds. items_depth (items_by f ds)) same)

  at_middle : (passed : List (String Global × V)) (e : String Global × V) (more : List (String Global × V)) → depth (f e.1) ≤ items_depth (items_by f (values_of (passed ++ e ∷ more)))
  at_middle [] e more = omega arith
  at_middle (p ∷ passed) e more = omega (arith, at_middle passed e more)

  -- what a loop over a map comes to is no deeper than the map
  pub next_within : {es left more : List (String Global × V)} {Holds : List (String Global × V) → Type 0} {e : String Global × V} → Passed es left Holds → left ≡ e ∷ more → IsStrictlySortedBy string_cmp (keys_of es)
      → depth (f e.1) ≤ members_depth (members_by f es)
  next_within {es = es} {more = more} {e = e} p next ascending =
      let all = ap (λ xs. items_depth (items_by f (values_of xs))) (Passed-next p next) in
      omega (arith, at_middle p.passed e more, all, members_depth-by es ascending)

  -- the entry that is next, and those that are left after it
  pub record Next (es left : List (String Global × V)) (name : String Global) (value : V) : Type 0 where
    pub ascends : IsStrictlySortedBy string_cmp (keys_of left)
    pub first : members_by f es ≡ member (string_bytes name) (f value) (members_by f left)
    pub value_within : depth (f value) ≤ members_depth (members_by f es)
    pub rest_within : members_depth (members_by f left) ≤ members_depth (members_by f es)

  pub next_entry : {es left : List (String Global × V)} {name : String Global} {value : V} → IsStrictlySortedBy string_cmp (keys_of es) → es ≡ (name, value) ∷ left → Next es left name value
  unfolding IsStrictlySortedBy
  next_entry {left = left} {name = name} {value = value} ascends steps =
      let whole : IsStrictlySortedBy string_cmp (keys_of ((name, value) ∷ left)) = subst (λ xs. IsStrictlySortedBy string_cmp (keys_of xs)) steps ascends in
      let first = ap (members_by f) steps ∙ members-cons-by f (name, value) left whole in
      record { ascends = whole.1; first = first; value_within = omega (arith, ap members_depth first); rest_within = omega (arith, ap members_depth first) }

-- ---- a map after a change

pub members_depth-put : (n : List ℕ) (d : Document) (ms : Members) → members_depth (put n d ms) ≤ max (depth d) (members_depth ms)
members_depth-put n d ms =
    let limit = max (depth d) (members_depth ms) in
    each_after_put (λ m e. depth e ≤ limit) (λ es. members_depth es ≤ limit) (λ m e es. (λ h. (omega arith, omega arith), λ h. omega arith)) n d ms (omega arith) (omega arith)

pub members_depth-without : (n : List ℕ) (ms : Members) → members_depth (without n ms) ≤ members_depth ms
members_depth-without n ms =
    let limit = members_depth ms in
    each_after_without (λ m e. depth e ≤ limit) (λ es. members_depth es ≤ limit) (λ m e es. (λ h. (omega arith, omega arith), λ h. omega arith)) n ms (omega arith)

pub value-depth : (n : List ℕ) (ms : Members) (y : Document) → find n ms ≡ Some y → depth y ≤ members_depth ms
value-depth n no_members y is = cc
value-depth n (member m d ms) y is = picked (is_name n m) is (value-depth n ms y)
  where
    picked : (b : Bool) → cond b (Some d) (find n ms) ≡ Some y → (find n ms ≡ Some y → depth y ≤ members_depth ms) → depth y ≤ max (depth d) (members_depth ms)
    picked true is later = let same : d ≡ y = cc in omega (arith, ap depth same)
    picked false is later = omega (arith, later is)
