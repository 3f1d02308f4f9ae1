-- The texts that a reader takes out of bytes that are UTF-8 are UTF-8 too.
use Rattle.std.proofs.Common.{◌≡◌, ◌≤◌, ◌<◌, ◌==◌, ◌&&◌, ℕ, zero, suc, nat_lt, Bool, true, false, cond, List, [], ◌∷◌, ◌++◌, length, get_or, Option, None, Some, IfSome, IsUtf8, inl, inr, refl, sym, ap, ◌∙◌, subst, arith, append-nil, length-append}
use Rattle.std.proofs.lemmas.Bool.{and_parts, cases_lt, eqb-true, ltb-true, leb-true, ne_eqb, le-ltb}
use Rattle.std.proofs.lemmas.Str.{IsUtf8-append, IsUtf8-nil, IsUtf8-encode, IsUtf8-drop, IsCharBoundary-after_ascii, encode_ascii, inside_one}
use Rattle.std.specs.Char.{is_digit}
use lib.Utf8.{encode, encodes, low_scalar, scalar, scalars}
use Rattle.json.specs.Lex.{Lexeme, token, comma, colon, Mode, between, in_word, in_string, in_escape, Class, quote, backslash, operator, space, other, class, operator_lexeme, string_token, lex, lex_byte, Place, fresh, after_value, after_comma, after_key, begins_colon, may_begin, may_close, if_allowed, place_token, punctuate, tokens}
use Rattle.json.specs.Text.{code_unit, short_escape, is_high_surrogate, is_low_surrogate, surrogate_pair, plain, after_backslash, after_u, after_high, prepend, content}
use Rattle.json.specs.Token.{Token, begin_object, end_object, begin_array, end_array, key, string, number, boolean, null, bad}
use Rattle.json.specs.Word.{after_number, ends_word, head, number_before, word}
use Rattle.mp_tree.proofs.Options.{if_either, if_then}

-- ---- a text that is UTF-8, character by character

after_ascii : (x : ℕ) (xs : List ℕ) → IsUtf8 (x ∷ xs) → x < 128 → IsUtf8 xs
after_ascii x xs utf8 small = IsUtf8-drop (x ∷ xs) 1 utf8 (IsCharBoundary-after_ascii (x ∷ xs) 0 utf8 (omega arith) small)

abbrev AllHigh : List ℕ → Type 0
AllHigh [] = Unit {0}
AllHigh (x ∷ xs) = (128 ≤ x) × AllHigh xs

all_high : (xs : List ℕ) → ((k : ℕ) → k < length xs → 128 ≤ get_or xs k 0) → AllHigh xs
all_high [] each = tt
all_high (x ∷ xs) each = (each 0 (omega arith), all_high xs (λ k below. each (suc k) (omega arith)))

-- it is empty, or begins with an ASCII byte, or with a character of bytes that are none
pub data Begins (xs : List ℕ) : Type 0 where
  nothing : xs ≡ [] → Begins xs
  ascii : (x : ℕ) (rest : List ℕ) → xs ≡ x ∷ rest → x < 128 → IsUtf8 rest → Begins xs
  high : (front rest : List ℕ) → xs ≡ front ++ rest → 0 < length front → AllHigh front → IsUtf8 front → IsUtf8 rest → Begins xs

some_bytes : (c : ℕ) → 0 < length (encode c)
unfolding encode
some_bytes c = grind arith

begins : (xs : List ℕ) → IsUtf8 xs → Begins xs
begins xs utf8 = by utf8.0 utf8.1.0 utf8.1.1
  where
    by : (cs : List ℕ) → scalars cs ≡ true → encodes cs ≡ xs → Begins xs
    by [] ok is = nothing (sym is)
    by (c ∷ cs) ok is = elim (cases_lt c 128) [
      | inl small ↦ ascii c (encodes cs) (sym is ∙ ap (λ l. l ++ encodes cs) (encode_ascii c small)) small (cs, ((and_parts _ _ ok).1, refl))
      | inr big ↦
          let each : (k : ℕ) → k < length (encode c) → 128 ≤ get_or (encode c) k 0 = λ k below. elim (cases_lt (get_or (encode c) k 0) 128) [
            | inl low ↦ absurd (omega (arith, inside_one c [] (encode c) k (sym (append-nil _)) below low))
            | inr h ↦ h
          ] in
          let utf8 = IsUtf8-encode c (and_parts _ _ ok).0 in
          high (encode c) (encodes cs) (sym is) (some_bytes c) (all_high (encode c) each) utf8 (cs, ((and_parts _ _ ok).1, refl))
    ]

-- ---- what is in a string

if_prepended : (bytes : List ℕ) (o : Option (List ℕ)) → IsUtf8 bytes → IfSome o IsUtf8 → IfSome (prepend bytes o) IsUtf8
if_prepended bytes None utf8 rest = tt
if_prepended bytes (Some s) utf8 rest = IsUtf8-append bytes s utf8 rest

pub IsUtf8-ascii : (x : ℕ) → x < 128 → IsUtf8 (x ∷ [])
IsUtf8-ascii x small = subst IsUtf8 (encode_ascii x small) (IsUtf8-encode x (low_scalar x (omega arith)))

abbrev Gives : ℕ → Type 0
Gives n = (xs : List ℕ) → length xs ≤ n → IsUtf8 xs → IfSome (content plain xs) IsUtf8

small_digit : (a : ℕ) → is_digit a 16 ≡ true → a < 128
small_digit a is = let value = ltb-true _ _ is in elim (cases_lt a 128) [
  | inl small ↦ small
  | inr big ↦ absurd (grind arith)
]

-- four digits and the number that they spell
record IsUnit (a b c d u : ℕ) : Type 0 where
  digits : (a < 128) × (b < 128) × (c < 128) × (d < 128)
  bound : u < 65536

code_unit-is : (a b c d : ℕ) → IfSome (code_unit a b c d) (IsUnit a b c d)
unfolding code_unit
code_unit-is a b c d = if_either (IsUnit a b c d) (is_digit a 16 && is_digit b 16 && is_digit c 16 && is_digit d 16) _ None (λ are.
    let three = and_parts (is_digit a 16 && is_digit b 16 && is_digit c 16) _ are in
    let two = and_parts (is_digit a 16 && is_digit b 16) _ three.0 in
    let one = and_parts (is_digit a 16) _ two.0 in
    record {
      digits = (small_digit a one.0, small_digit b one.1, small_digit c two.1, small_digit d three.1);
      bound = omega (arith, ltb-true _ _ one.0, ltb-true _ _ one.1, ltb-true _ _ two.1, ltb-true _ _ three.1);
    }) (λ no. tt)

short_escape-is : (x : ℕ) → IfSome (short_escape x) (λ c. c < 128)
unfolding short_escape
short_escape-is x = grind arith

no_escape : (x : ℕ) → 128 ≤ x → short_escape x ≡ None
unfolding short_escape
no_escape x big = rw (ne_eqb x 34 (λ is. omega arith), ne_eqb x 92 (λ is. omega arith), ne_eqb x 47 (λ is. omega arith), ne_eqb x 98 (λ is. omega arith), ne_eqb x 102 (λ is. omega arith), ne_eqb x 110 (λ is. omega arith), ne_eqb x 114 (λ is. omega arith), ne_eqb x 116 (λ is. omega arith))

-- past four ASCII bytes
after_four : (a b c d : ℕ) (xs : List ℕ) → IsUtf8 (a ∷ b ∷ c ∷ d ∷ xs) → (a < 128) × (b < 128) × (c < 128) × (d < 128) → IsUtf8 xs
after_four a b c d xs utf8 small = after_ascii d xs (after_ascii c _ (after_ascii b _ (after_ascii a _ utf8 small.0) small.1) small.2) small.3

module _ (n : ℕ) (gives : Gives n) where
  pair_gives : (h : ℕ) (xs : List ℕ) → is_high_surrogate h ≡ true → length xs ≤ n → IsUtf8 xs → IfSome (content (after_high h) xs) IsUtf8
  unfolding content
  pair_gives h (s ∷ u ∷ a ∷ b ∷ c ∷ d ∷ xs) is short utf8 = if_either IsUtf8 ((s == 92) && (u == 117)) _ None (λ both.
      let marks = and_parts (s == 92) (u == 117) both in
      let first : s < 128 = omega (arith, eqb-true _ _ marks.0) in
      let second : u < 128 = omega (arith, eqb-true _ _ marks.1) in
      if_then (IsUnit a b c d) IsUtf8 (code_unit a b c d) _ (code_unit-is a b c d) (λ l unit. if_either IsUtf8 (is_low_surrogate l) _ None (λ low.
      let rest = after_four a b c d xs (after_ascii u _ (after_ascii s _ utf8 first) second) unit.digits in
      let high = and_parts _ _ is in
      let lower = and_parts _ _ low in
      if_prepended (encode (surrogate_pair h l)) (content plain xs) (IsUtf8-encode _ (pair_is_scalar h l (leb-true _ _ high.0) (ltb-true _ _ high.1) (leb-true _ _ lower.0) (ltb-true _ _ lower.1))) (gives xs (omega arith) rest)) (λ no. tt))) (λ no. tt)
    where
      pair_is_scalar : (h l : ℕ) → 0xd800 ≤ h → h < 0xdc00 → 0xdc00 ≤ l → l < 0xe000 → scalar (surrogate_pair h l) ≡ true
      pair_is_scalar h l p q r s = grind arith
  pair_gives h xs is short utf8 = tt

  unit_gives : (xs : List ℕ) → length xs ≤ n → IsUtf8 xs → IfSome (content after_u xs) IsUtf8
  unfolding content
  unit_gives (a ∷ b ∷ c ∷ d ∷ xs) short utf8 = if_then (IsUnit a b c d) IsUtf8 (code_unit a b c d) _ (code_unit-is a b c d) (λ u unit.
      let rest = after_four a b c d xs utf8 unit.digits in
      if_either IsUtf8 (is_high_surrogate u) _ _ (λ high. pair_gives u xs high (omega arith) rest) (λ not_high.
      if_either IsUtf8 (is_low_surrogate u) None _ (λ low. tt) (λ not_low.
      if_prepended (encode u) (content plain xs) (IsUtf8-encode u (unit_is_scalar u unit.bound not_high not_low)) (gives xs (omega arith) rest))))
    where
      unit_is_scalar : (u : ℕ) → u < 65536 → is_high_surrogate u ≡ false → is_low_surrogate u ≡ false → scalar u ≡ true
      unit_is_scalar u bound not_high not_low = grind arith
  unit_gives xs short utf8 = tt

  escape_gives : (xs : List ℕ) → length xs ≤ n → IsUtf8 xs → IfSome (content after_backslash xs) IsUtf8
  unfolding content
  escape_gives [] short utf8 = tt
  escape_gives (x ∷ xs) short utf8 = elim (cases_lt x 128) [
    | inl small ↦
        let rest = after_ascii x xs utf8 small in
        if_either IsUtf8 (x == 117) _ _ (λ is. unit_gives xs (omega arith) rest) (λ no.
        if_then (λ c. c < 128) IsUtf8 (short_escape x) _ (short_escape-is x) (λ c below. if_prepended (c ∷ []) (content plain xs) (IsUtf8-ascii c below) (gives xs (omega arith) rest)))
    | inr big ↦ rw (ne_eqb x 117 (λ is. omega arith), no_escape x big) tt
  ]

  high_gives : (front rest : List ℕ) → AllHigh front → content plain (front ++ rest) ≡ prepend front (content plain rest)
  unfolding content
  high_gives [] rest all = elim (content plain rest) as (λ o. o ≡ prepend [] o) [ None ↦ refl | Some s ↦ refl ]
  high_gives (x ∷ front) rest all =
      rw (ne_eqb x 34 (λ is. omega arith), ne_eqb x 92 (λ is. omega arith), le-ltb x 32 (omega arith))
      (ap (prepend (x ∷ [])) (high_gives front rest all.1) ∙ elim (content plain rest) as (λ o. prepend (x ∷ []) (prepend front o) ≡ prepend (x ∷ front) o) [ None ↦ refl | Some s ↦ refl ])

  plain_gives : (x : ℕ) (xs : List ℕ) → length xs ≤ n → x < 128 → IsUtf8 xs → IfSome (content plain (x ∷ xs)) IsUtf8
  unfolding content
  plain_gives x xs short small rest =
      if_either IsUtf8 (x == 34) _ _ (λ is. IsUtf8-nil) (λ no.
      if_either IsUtf8 (x == 92) _ _ (λ is. escape_gives xs short rest) (λ not.
      if_either IsUtf8 (nat_lt x 32) None _ (λ is. tt) (λ fine. if_prepended (x ∷ []) (content plain xs) (IsUtf8-ascii x small) (gives xs short rest))))

all_gives : (n : ℕ) → Gives n
unfolding content
all_gives zero xs short utf8 = subst (λ l. IfSome (content plain l) IsUtf8) (empty xs (omega arith)) tt
  where
    empty : (xs : List ℕ) → length xs ≤ 0 → [] ≡ xs
    empty [] short = refl
    empty (x ∷ xs) short = absurd (omega arith)
all_gives (suc n) xs short utf8 = elim (begins xs utf8) [
  | nothing is ↦ rw is tt
  | ascii x rest is small fine ↦ rw is (plain_gives n (all_gives n) x rest (omega (arith, ap length is)) small fine)
  | high front rest is some all good fine ↦
      rw (is, high_gives n (all_gives n) front rest all) (if_prepended front (content plain rest) good (all_gives n rest (omega (arith, ap length is, length-append front rest)) fine))
]

content-utf8 : (xs : List ℕ) → IsUtf8 xs → IfSome (content plain xs) IsUtf8
content-utf8 xs utf8 = all_gives (length xs) xs (omega arith) utf8

-- ---- the tokens

abbrev pub IsText : Token → Type 0
IsText (key s) = IsUtf8 s
IsText (string s) = IsUtf8 s
IsText t = Unit {0}

abbrev pub AreTexts : List Token → Type 0
AreTexts [] = Unit {0}
AreTexts (t ∷ ts) = IsText t × AreTexts ts

abbrev HasText : Lexeme → Type 0
HasText (token (key s)) = ⊥
HasText (token (string s)) = IsUtf8 s
HasText l = Unit {0}

abbrev HaveTexts : List Lexeme → Type 0
HaveTexts [] = Unit {0}
HaveTexts (l ∷ ls) = HasText l × HaveTexts ls

either-text : (b : Bool) (t u : Token) → HasText (token t) → HasText (token u) → HasText (token (cond b t u))
either-text true t u first second = first
either-text false t u first second = second

number-text : (xs : List ℕ) (o : Option (List ℕ)) → HasText (token (number_before xs o))
number-text xs None = tt
number-text xs (Some rest) = either-text (ends_word rest) _ bad tt tt

word-text : (xs : List ℕ) → HasText (token (word xs))
unfolding word
word-text xs =
    either-text (head xs == 116) _ _ (either-text _ (boolean true) bad tt tt)
    (either-text (head xs == 102) _ _ (either-text _ (boolean false) bad tt tt)
    (either-text (head xs == 110) _ _ (either-text _ null bad tt tt) (number-text xs (after_number xs))))

string-text : (o : Option (List ℕ)) → IfSome o IsUtf8 → HasText (token (string_token o))
string-text None utf8 = tt
string-text (Some s) utf8 = utf8

operator-text : (x : ℕ) → HasText (operator_lexeme x)
operator-text x =
    lexeme (x == 123) _ _ tt (lexeme (x == 125) _ _ tt (lexeme (x == 91) _ _ tt (lexeme (x == 93) _ _ tt (lexeme (x == 44) _ _ tt tt))))
  where
    lexeme : (b : Bool) (l m : Lexeme) → HasText l → HasText m → HasText (cond b l m)
    lexeme true l m first second = first
    lexeme false l m first second = second

-- an ASCII byte, before a text that is UTF-8
byte-texts : (m : Mode) (c : Class) (x : ℕ) (xs : List ℕ) (k : Mode → List Lexeme) → IsUtf8 xs → ((next : Mode) → HaveTexts (k next)) → HaveTexts (lex_byte m c x xs k)
byte-texts between quote x xs k utf8 all = (string-text (content plain xs) (content-utf8 xs utf8), all in_string)
byte-texts between backslash x xs k utf8 all = (tt, all in_word)
byte-texts between operator x xs k utf8 all = (operator-text x, all between)
byte-texts between space x xs k utf8 all = all between
byte-texts between other x xs k utf8 all = (word-text (x ∷ xs), all in_word)
byte-texts in_word operator x xs k utf8 all = (operator-text x, all between)
byte-texts in_word space x xs k utf8 all = all between
byte-texts in_word c x xs k utf8 all = all in_word
byte-texts in_string quote x xs k utf8 all = all between
byte-texts in_string backslash x xs k utf8 all = all in_escape
byte-texts in_string c x xs k utf8 all = all in_string
byte-texts in_escape c x xs k utf8 all = all in_string

-- a byte that is no ASCII begins no string and ends none
high-class : (x : ℕ) → 128 ≤ x → class x ≡ other
high-class x big = grind arith

high_byte-texts : (m : Mode) (x : ℕ) (xs : List ℕ) (k : Mode → List Lexeme) → ((next : Mode) → HaveTexts (k next)) → HaveTexts (lex_byte m other x xs k)
high_byte-texts between x xs k all = (word-text (x ∷ xs), all in_word)
high_byte-texts in_word x xs k all = all in_word
high_byte-texts mode x xs k all = all in_string

high-texts : (front rest : List ℕ) → AllHigh front → ((m : Mode) → HaveTexts (lex m rest)) → (m : Mode) → HaveTexts (lex m (front ++ rest))
unfolding lex
high-texts [] rest each all m = all m
high-texts (x ∷ front) rest each all m = rw (high-class x each.0) (high_byte-texts m x (front ++ rest) (λ next. lex next (front ++ rest)) (high-texts front rest each.1 all))

lex-texts : (n : ℕ) (xs : List ℕ) → length xs ≤ n → IsUtf8 xs → (m : Mode) → HaveTexts (lex m xs)
unfolding lex
lex-texts n [] short utf8 m = tt
lex-texts zero (x ∷ xs) short utf8 m = absurd (omega arith)
lex-texts (suc n) (x ∷ xs) short utf8 m = elim (begins (x ∷ xs) utf8) [
  | nothing is ↦ absurd (cc)
  | ascii y rest is small fine ↦ subst (λ l. HaveTexts (lex m l)) (sym is) (byte-texts m (class y) y rest (λ next. lex next rest) fine (lex-texts n rest (omega (arith, ap length is)) fine))
  | high front rest is some all good fine ↦ subst (λ l. HaveTexts (lex m l)) (sym is) (high-texts front rest all (lex-texts n rest (omega (arith, ap length is, length-append front rest)) fine) m)
]

-- ---- commas and colons

allowed-texts : (b : Bool) (t : Token) (k : Place → List Token) (next : Place) → IsText t → AreTexts (k next) → AreTexts (if_allowed b t k next)
allowed-texts true t k next here rest = (here, rest)
allowed-texts false t k next here rest = (tt, tt)

placed-texts : (p : Place) (t : Token) (before_colon : Bool) (k : Place → List Token) → HasText (token t) → ((next : Place) → AreTexts (k next)) → AreTexts (place_token p t before_colon k)
placed-texts p begin_object b k here rest = allowed-texts (may_begin p) begin_object k fresh tt (rest fresh)
placed-texts p end_object b k here rest = allowed-texts (may_close p) end_object k after_value tt (rest after_value)
placed-texts p begin_array b k here rest = allowed-texts (may_begin p) begin_array k fresh tt (rest fresh)
placed-texts p end_array b k here rest = allowed-texts (may_close p) end_array k after_value tt (rest after_value)
placed-texts p (string s) true k here rest = allowed-texts (may_begin p) (key s) k after_key here (rest after_key)
placed-texts p (string s) false k here rest = allowed-texts (may_begin p) (string s) k after_value here (rest after_value)
placed-texts p (number s) b k here rest = allowed-texts (may_begin p) (number s) k after_value tt (rest after_value)
placed-texts p (boolean c) b k here rest = allowed-texts (may_begin p) (boolean c) k after_value tt (rest after_value)
placed-texts p null b k here rest = allowed-texts (may_begin p) null k after_value tt (rest after_value)
placed-texts p t b k here rest = (tt, tt)

punctuated-texts : (p : Place) (ls : List Lexeme) → HaveTexts ls → AreTexts (punctuate p ls)
unfolding punctuate
punctuated-texts fresh [] have = tt
punctuated-texts after_value [] have = tt
punctuated-texts p (token t ∷ ls) have = placed-texts p t (begins_colon ls) (λ next. punctuate next ls) have.0 (λ next. punctuated-texts next ls have.1)
punctuated-texts after_value (comma ∷ ls) have = punctuated-texts after_comma ls have.1
punctuated-texts after_key (colon ∷ ls) have = punctuated-texts fresh ls have.1
punctuated-texts p ls have = (tt, tt)

pub tokens-texts : (bytes : List ℕ) → IsUtf8 bytes → AreTexts (tokens bytes)
tokens-texts bytes utf8 = punctuated-texts fresh (lex between bytes) (lex-texts (length bytes) bytes (omega arith) utf8 between)
