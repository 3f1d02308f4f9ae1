-- Tokens that spell an index, and the elements that they name.
use Rattle.std.proofs.Common.{◌≡◌, ◌≢◌, ◌<◌, ◌≤◌, ◌+◌, ◌^◌, ℕ, zero, suc, List, [], ◌∷◌, length, get_or, map, Bool, true, false, Option, None, Some, MatchOption, Result, Ok, Err, refl, sym, ap, ◌∙◌, subst, arith, add-zero, true≢false, cond}
use Rattle.std.proofs.lemmas.Fmt.{decimal_digit, decimal-digits_of, decimal-digits_value, digits_decimal, digits_value-decimal}
use Rattle.std.proofs.lemmas.Int.Digits.{first_digits_of, same_from_digits_of, all_below_base_digits_of}
use Rattle.std.proofs.lemmas.Slice.Eq.{bytes_eq-Decides}
use Rattle.std.proofs.lemmas.Str.Parse.{IsNumeralModel, numerals_by_value, tells_digits, parse_plain}
use Rattle.std.specs.Fmt.{decimal}
use Rattle.std.specs.Int.Digits.{digits_of, AllBelowBase}
use Rattle.std.specs.List.{slice_get}
use Rattle.std.specs.Option.{option_copied}
use Rattle.std.specs.Slice.{IsItemAt}
use Rattle.std.proofs.lemmas.Option.{slice_get_past, slice_get_read}
use denote.Ref.{Bor}
use Rattle.std.specs.Result.{result_ok}
use Rattle.std.specs.Str.{bytes_eq}
use Rattle.std.specs.Str.Parse.{AllDigits, digits_value, ParsesUnsigned}
use Rattle.mp_tree.specs.Document.{Document, Items, no_items, item, list}
use Rattle.mp_pointer.specs.Bytes.{digit_zero, digit_one}
use Rattle.mp_pointer.specs.Laws.{NamesElements, NamesNothingElse, NumeralsArePrinted}
use Rattle.mp_pointer.specs.Part.{numeral, element_from, child}
use Rattle.mp_pointer.specs.Private.Digits.{digit_nine}
use Rattle.mp_tree.specs.Elements.{count_of, nth}
use Rattle.mp_tree.proofs.Facts.{nth_past}

pub numeral-decimal : NumeralsArePrinted
unfolding numeral
numeral-decimal zero small = sym (decimal_digit 0 (omega arith))
numeral-decimal (suc n) small = sym (decimal-digits_of (suc n) (omega arith) small)

first_glyph : (digits : List ℕ) → 0 < get_or digits 0 0 → digit_zero < get_or (map (λ d. digit_zero + d) digits) 0 0
first_glyph [] some = absurd (omega arith)
first_glyph (d ∷ digits) some = omega arith

same_digits : (xs ys : List ℕ) → map (λ d. digit_zero + d) xs ≡ map (λ d. digit_zero + d) ys → xs ≡ ys
same_digits [] [] e = refl
same_digits [] (y ∷ ys) e = cc
same_digits (x ∷ xs) [] e = cc
same_digits (x ∷ xs) (y ∷ ys) e =
    let head : digit_zero + x ≡ digit_zero + y = cc in
    let tail : map (λ d. digit_zero + d) xs ≡ map (λ d. digit_zero + d) ys = cc in
    let here : x ≡ y = omega arith in
    let later = same_digits xs ys tail in
    cc

no_zero_first : (n : ℕ) → numeral zero ≢ numeral (suc n)
unfolding numeral
no_zero_first n e = omega (arith, first_glyph (digits_of 10 (suc n)) (first_digits_of 10 (suc n) (omega arith) (omega arith)), ap (λ xs. get_or xs 0 0) e)

pub same_numeral : (i j : ℕ) → numeral i ≡ numeral j → i ≡ j
unfolding numeral
same_numeral zero zero e = refl
same_numeral zero (suc j) e = absurd (no_zero_first j e)
same_numeral (suc i) zero e = absurd (no_zero_first i (sym e))
same_numeral (suc i) (suc j) e = same_from_digits_of 10 (suc i) (suc j) (omega arith) (same_digits (digits_of 10 (suc i)) (digits_of 10 (suc j)) e)

-- ---- what a token that spells an index looks like

first_digit : (digits : List ℕ) → AllBelowBase 10 digits → 0 < get_or digits 0 0 → (0 < length (map (λ d. digit_zero + d) digits)) × (digit_zero < get_or (map (λ d. digit_zero + d) digits) 0 0) × (get_or (map (λ d. digit_zero + d) digits) 0 0 ≤ digit_nine)
first_digit [] below some = absurd (omega arith)
first_digit (d ∷ digits) below some = (omega arith, omega arith, omega (arith, below.0))

pub numeral_first : (i : ℕ) → (0 < length (numeral i)) × (digit_zero ≤ get_or (numeral i) 0 0) × (get_or (numeral i) 0 0 ≤ digit_nine) × (get_or (numeral i) 0 0 ≡ digit_zero → length (numeral i) ≡ 1)
unfolding numeral
numeral_first zero = (omega arith, omega arith, omega arith, λ _. refl)
numeral_first (suc n) =
    let f = first_digit (digits_of 10 (suc n)) (all_below_base_digits_of 10 (suc n) (omega arith)) (first_digits_of 10 (suc n) (omega arith) (omega arith)) in
    (f.0, omega (arith, f.1), f.2, λ e. absurd (omega (arith, e, f.1)))

own : IsNumeralModel (AllDigits 10) (digits_value 10)
own = numerals_by_value (AllDigits 10) tells_digits

-- a token that begins with a digit above 0 spells what it is parsed as
pub index_parsed : {E : Type 0} (token : List ℕ) (r : Result ℕ E) → ParsesUnsigned 64 10 token r → digit_one ≤ get_or token 0 0 → get_or token 0 0 ≤ digit_nine
    → MatchOption (result_ok r) ((i : ℕ) → token ≡ numeral i → 2 ^ 64 ≤ i) (λ i. token ≡ numeral i)
index_parsed {E} token (Ok i) parses low high =
    let p = parse_plain own {E = E} 64 token (Ok i) parses (λ plus. omega arith) in
    let written : decimal (digits_value 10 token) ≡ token = decimal-digits_value own token p.0.0 p.0.1 (λ zero_first. absurd (omega arith)) p.0.2 in
    sym (ap numeral p.1 ∙ numeral-decimal (digits_value 10 token) p.0.2 ∙ written)
index_parsed {E} token (Err e) parses low high = λ i is.
    let p = parse_plain own {E = E} 64 token (Err e) parses (λ plus. omega arith) in
    let too_large : i < 2 ^ 64 → ⊥ = λ small.
    let written : token ≡ decimal i = is ∙ numeral-decimal i small in
    p (subst (AllDigits 10) (sym written) (digits_decimal own i small), omega (arith, high_enough token low), subst (λ n. n < 2 ^ 64) (sym (ap (digits_value 10) written ∙ digits_value-decimal own i small)) small) in
    omega (arith, too_large)
  where
    high_enough : (xs : List ℕ) → digit_one ≤ get_or xs 0 0 → 0 < length xs
    high_enough [] low = absurd (omega arith)
    high_enough (x ∷ xs) low = omega arith

-- a token that begins with no digit above 0, and is not `0`, spells no index
pub no_index : (token : List ℕ) → ((digit_one ≤ get_or token 0 0) × (get_or token 0 0 ≤ digit_nine) → ⊥) → token ≢ digit_zero ∷ [] → (i : ℕ) → token ≢ numeral i
no_index token no_digit no_zero i is =
    let f = subst (λ n. (0 < length n) × (digit_zero ≤ get_or n 0 0) × (get_or n 0 0 ≤ digit_nine) × (get_or n 0 0 ≡ digit_zero → length n ≡ 1)) (sym is) (numeral_first i) in
    let first : get_or token 0 0 ≡ digit_zero = at_least (get_or token 0 0) f.1 (λ above. no_digit (above, f.2)) in
    no_zero (alone token first (f.3 first))
  where
    at_least : (x : ℕ) → digit_zero ≤ x → (digit_one ≤ x → ⊥) → x ≡ digit_zero
    at_least x low high = omega (arith, high)

    alone : (xs : List ℕ) → get_or xs 0 0 ≡ digit_zero → length xs ≡ 1 → xs ≡ digit_zero ∷ []
    alone [] first one = absurd (omega arith)
    alone (x ∷ []) first one = ap (λ y. y ∷ []) first
    alone (x ∷ y ∷ xs) first one = absurd (omega arith)

pub bytes_differ : (xs ys : List ℕ) (b : Bool) → b ≡ bytes_eq xs ys → b ≡ false → xs ≢ ys
bytes_differ xs ys b is differ same = true≢false (sym ((bytes_eq-Decides xs ys).1 same) ∙ sym is ∙ differ)

-- ---- the element at an index

here : (token : List ℕ) (i : ℕ) → token ≡ numeral i → bytes_eq token (numeral i) ≡ true
here token i is = (bytes_eq-Decides token (numeral i)).1 is

pub elsewhere : (token : List ℕ) (i : ℕ) → token ≢ numeral i → bytes_eq token (numeral i) ≡ false
elsewhere token i other = split (bytes_eq token (numeral i)) refl
  where
    split : (b : Bool) → bytes_eq token (numeral i) ≡ b → b ≡ false
    split true e = absurd (other ((bytes_eq-Decides token (numeral i)).0 e))
    split false e = refl

element_from-numeral : (i j k : ℕ) (ds : Items) → k ≡ i + j → element_from i (numeral k) ds ≡ nth j ds
element_from-numeral i j k no_items is = refl
element_from-numeral i zero k (item d ds) is = let same : k ≡ i = omega arith in rw (here (numeral k) i (ap numeral same))
element_from-numeral i (suc j) k (item d ds) is =
    let apart : numeral k ≢ numeral i = λ e. omega (arith, same_numeral k i e) in
    rw (elsewhere (numeral k) i apart) (element_from-numeral (suc i) j k ds (omega arith))

element_from-none : (i : ℕ) (token : List ℕ) (ds : Items) → ((j : ℕ) → j < count_of ds → token ≢ numeral (i + j)) → element_from i token ds ≡ None
element_from-none i token no_items none = refl
element_from-none i token (item d ds) none =
    let apart : token ≢ numeral i = λ e. none 0 (omega arith) (e ∙ ap numeral (sym (add-zero i))) in
    rw (elsewhere token i apart) (element_from-none (suc i) token ds (λ j below e. none (suc j) (omega arith) (e ∙ ap numeral (omega arith))))

-- a token that spells an index names the element there
pub child-numeral : (token : List ℕ) (i : ℕ) (ds : Items) → token ≡ numeral i → child token (list ds) ≡ nth i ds
unfolding child
child-numeral token i ds is = ap (λ n. element_from 0 n ds) is ∙ element_from-numeral 0 i i ds (omega arith)

-- and one that spells no index below the length names nothing
pub child-no_index : (token : List ℕ) (ds : Items) → ((i : ℕ) → token ≡ numeral i → count_of ds ≤ i) → child token (list ds) ≡ None
unfolding child
child-no_index token ds none = element_from-none 0 token ds (λ j below e. omega (arith, none j (e ∙ ap numeral (omega arith))))

-- what `get` of a list answers
pub item_at : {X : Type 0} (xs : List X) (i : ℕ) (r : Option (Bor X)) → IsItemAt xs i r → option_copied r ≡ slice_get xs i
item_at xs i None read = sym (slice_get_past xs i read.3)
item_at xs i (Some x) read = sym (slice_get_read xs (length xs) i x.now refl read.3.0 read.1)

pub names_elements : NamesElements
names_elements i ds = (child-numeral (numeral i) i ds refl, λ past. child-numeral (numeral i) i ds refl ∙ nth_past i ds past)

pub names_nothing_else : NamesNothingElse
names_nothing_else token ds other = child-no_index token ds (λ i is. absurd (other i is))

-- the index that a token spells, if it names an element
pub element_found : (i : ℕ) (token : List ℕ) (ds : Items) (x : Document) → element_from i token ds ≡ Some x → (j : ℕ) × (token ≡ numeral (i + j)) × (nth j ds ≡ Some x)
element_found i token no_items x is = cc
element_found i token (item d ds) x is = by (bytes_eq token (numeral i)) refl (element_found (suc i) token ds x) is
  where
    by : (b : Bool) → bytes_eq token (numeral i) ≡ b → (element_from (suc i) token ds ≡ Some x → (j : ℕ) × (token ≡ numeral (suc i + j)) × (nth j ds ≡ Some x)) → cond b (Some d) (element_from (suc i) token ds) ≡ Some x
        → (j : ℕ) × (token ≡ numeral (i + j)) × (nth j (item d ds) ≡ Some x)
    by true same later here = let at : i ≡ i + 0 = omega arith in (0, (bytes_eq-Decides token (numeral i)).0 same ∙ ap numeral at, here)
    by false other later there =
        let found = later there in
        let further : suc i + found.0 ≡ i + suc found.0 = omega arith in
        (suc found.0, found.1 ∙ ap numeral further, found.2)
