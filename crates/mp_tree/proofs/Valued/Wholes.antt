-- Values of which each number is whole: what is read of one is the document that it means.
use Rattle.std.proofs.Common.{◌≡◌, ◌≤◌, ◌<◌, ◌+◌, ◌-◌, ℕ, zero, suc, List, [], ◌∷◌, ◌++◌, length, get_or, Option, Some, None, option_map, Bool, true, false, nat_lt, String, BTreeMap, Global, string_bytes, refl, sym, ap, ◌∙◌, subst, true≢false, arith}
use Rattle.std.proofs.lemmas.Bool.{ltb-true, ltb-false}
use Rattle.std.proofs.lemmas.List.{get_or_default}
use Rattle.std.specs.Map.{values_of}
use Rattle.serde_json.specs.View.{items_view, members_view}
use Rattle.serde_json.proofs.Views.{view-Object}
use Rattle.serde_json.specs.declared.value.Value.{Value, Object}
use Rattle.mp_tree.specs.Document.{object, depth, members_depth}
use Rattle.mp_tree.specs.Private.Entries.{value_members}
use Rattle.mp_tree.specs.Private.Readings.{IsReading, reading_around}
use Rattle.mp_tree.specs.declared.value_walks.Reading.{Reading}
use Rattle.mp_tree.specs.declared.value_walks.Reading.TheVariants.{Fits, TooDeep, NotWhole}
use Rattle.mp_tree.specs.Text.{from_data, items_from_data, members_from_data}
use Rattle.mp_tree.specs.Values.{value_document, value_items}
use Rattle.mp_tree.proofs.Texts.FromData.{from_value, none_after, none_below}
use Rattle.mp_tree.proofs.Valued.Meaning.{value-Object}

abbrev pub IsRead : Value → Type 0
IsRead v = from_value v ≡ Some (value_document v)

-- ---- the elements of an array

-- each of the first i elements is as shallow as asked
abbrev pub AreShallow : ℕ → List Value → ℕ → Type 0
AreShallow i vs limit = (k : ℕ) (d : Value) → k < i → depth (value_document (get_or vs k d)) ≤ limit

-- what holds of each element that a loop has passed, and of the next one
pub each_more : (P : Value → Type 0) (vs : List Value) (i : ℕ) (v : Value) → ((k : ℕ) (d : Value) → k < i → P (get_or vs k d)) → i < length vs → v ≡ get_or vs i v → P v → (k : ℕ) (d : Value) → k < i + 1 → P (get_or vs k d)
each_more P vs i v before within is here k d below = by (nat_lt k i) refl
  where
    by : (b : Bool) → nat_lt k i ≡ b → P (get_or vs k d)
    by true less = before k d (ltb-true k i less)
    by false more =
        let last : i ≡ k = omega (arith, ltb-false k i more) in
        subst (λ j. P (get_or vs j d)) last (subst P (is ∙ get_or_default vs i v d within) here)

pub items_read : (vs : List Value) → ((k : ℕ) (d : Value) → k < length vs → IsRead (get_or vs k d)) → items_from_data (items_view vs) ≡ Some (value_items vs)
items_read [] each = refl
items_read (v ∷ vs) each = rw (each zero v (omega arith), items_read vs (λ k d below. each (suc k) d (omega arith)))

pub items_unread : (vs : List Value) (k : ℕ) (d : Value) → k < length vs → from_value (get_or vs k d) ≡ None → items_from_data (items_view vs) ≡ None
items_unread [] k d below none = absurd (omega arith)
items_unread (v ∷ vs) zero d below none = rw none
items_unread (v ∷ vs) (suc k) d below none = none_after (from_value v) _ (items_unread vs k d (omega arith) none)

-- ---- the values of a map

abbrev pub AreRead : List Value → Type 0
AreRead [] = Unit {0}
AreRead (v ∷ vs) = IsRead v × AreRead vs

pub AreRead-push : (vs : List Value) (v : Value) → AreRead vs → IsRead v → AreRead (vs ++ v ∷ [])
AreRead-push [] v are is = (is, tt)
AreRead-push (w ∷ vs) v are is = (are.0, AreRead-push vs v are.1 is)

pub members_read : (es : List (String Global × Value)) → AreRead (values_of es) → members_from_data (members_view es) ≡ Some (value_members es)
members_read [] are = refl
members_read (e ∷ es) are = rw (are.0, members_read es are.1)

pub members_unread : (es : List (String Global × Value)) (done : List Value) (v : Value) (left : List Value) → values_of es ≡ done ++ v ∷ left → from_value v ≡ None → members_from_data (members_view es) ≡ None
members_unread [] [] v left is none = absurd (cc)
members_unread [] (w ∷ done) v left is none = absurd (cc)
members_unread (e ∷ es) [] v left is none = let first : e.1 ≡ v = cc in rw (first, none)
members_unread (e ∷ es) (w ∷ done) v left is none =
    let rest : values_of es ≡ done ++ v ∷ left = cc in
    none_below (string_bytes e.0) (from_value e.1) _ (members_unread es done v left rest none)

-- ---- what is found of a value from what is found of its parts

-- of parts that were passed: none is known to be deep, or one is
abbrev pub IsSoFar : Reading → Type 0 → Type 0 → Type 0
IsSoFar Fits fit deep = fit
IsSoFar TooDeep fit deep = deep
IsSoFar NotWhole fit deep = true ≡ false

pub read_so_far : {X : Type 0} {read : Option X} {meant : X} (depth limit : ℕ) (r : Reading) → read ≡ Some meant → IsSoFar r (depth ≤ limit) (limit < depth) → IsReading r read meant depth limit
read_so_far depth limit Fits is within = (is, within)
read_so_far depth limit TooDeep is deep = (is, deep)
read_so_far depth limit NotWhole is never = absurd (true≢false never)

pub IsSoFar-weaker : {P Q R S : Type 0} (r : Reading) → (P → R) → (Q → S) → IsSoFar r P Q → IsSoFar r R S
IsSoFar-weaker Fits fit deep is = fit is
IsSoFar-weaker TooDeep fit deep is = deep is
IsSoFar-weaker NotWhole fit deep never = never

around_parts : {X Y : Type 0} (f : X → Y) (read : Option X) (meant : X) (depth : ℕ) (r : Reading) (limit : ℕ) → IsReading r read meant depth (limit - 1)
    → IsReading (reading_around r limit) (option_map f read) (f meant) (suc depth) limit
around_parts f read meant depth Fits zero is = (ap (option_map f) is.0, omega arith)
around_parts f read meant depth Fits (suc limit) is = (ap (option_map f) is.0, omega (arith, is.1))
around_parts f read meant depth TooDeep limit is = (ap (option_map f) is.0, omega (arith, is.1))
around_parts f read meant depth NotWhole limit none = ap (option_map f) none

pub reading_of_object : {v : Value} (r : Reading) (limit : ℕ) (m : BTreeMap (String Global) Value) → v ≡ Object m
    → IsReading r (members_from_data (members_view m.entries)) (value_members m.entries) (members_depth (value_members m.entries)) (limit - 1)
    → IsReading (reading_around r limit) (from_value v) (value_document v) (depth (value_document v)) limit
reading_of_object r limit m is parts =
    let read : from_value (Object m) ≡ option_map object (members_from_data (members_view m.entries)) = ap from_data (view-Object m) in
    let whole = around_parts object _ _ _ r limit parts in
    let meant = sym (value-Object m) in
    let of_map = subst (λ d. IsReading (reading_around r limit) (from_value (Object m)) d (depth d) limit) meant
    (subst (λ o. IsReading (reading_around r limit) o (object (value_members m.entries)) (suc (members_depth (value_members m.entries))) limit) (sym read) whole) in
    subst (λ w. IsReading (reading_around r limit) (from_value w) (value_document w) (depth (value_document w)) limit) (sym is) of_map
