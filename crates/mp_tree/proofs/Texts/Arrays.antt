-- Texts in an array, with white space around each, are read as the documents that they are of.
use Rattle.std.proofs.Common.{◌≡◌, ◌≤◌, ℕ, Bool, true, false, cond, List, [], ◌∷◌, ◌++◌, map, Some, IsUtf8, inl, inr, refl, sym, ap, ap₂, ◌∙◌, subst, arith, append_assoc, append-nil}
use Rattle.std.proofs.lemmas.Str.{IsUtf8-append, IsUtf8-nil}
use Rattle.std.proofs.lemmas.List.Elements.{All-head, All-tail}
use Rattle.std.specs.List.{All, AllZip, flat_map}
use Rattle.json.specs.Lex.{Lexeme, token, comma, colon, string_token, lex, between, punctuate, fresh}
use Rattle.json.specs.Print.{escape, quoted}
use Rattle.json.specs.Token.{begin_object, end_object, begin_array, end_array, string, boolean, null, bad}
use Rattle.json.specs.Word.{ends_word, word}
use Rattle.json.proofs.Printed.Numbers.{in_word-ended, lex-number}
use Rattle.json.proofs.Printed.Strings.{content-escape, lex-escape}
use Rattle.json.proofs.Printed.Utf8.{IsUtf8-are_ascii}
use Rattle.serde_json.specs.Find.{of_integer}
use Rattle.serde_json.specs.Written.{number_text, comma_if, items_text, members_text}
use Rattle.mp_tree.specs.Arrays.{IsSpace, IsSpaced, in_brackets}
use Rattle.mp_tree.specs.Document.{Document, null as no_value, flag, whole, string as text_value, list, object, Items, no_items, item, Members, no_members, member, IsWhole, IsInRange, IsReadable, AreDocuments, ThroughoutItems, ThroughoutMembers, items_depth, depth_limit}
use Rattle.mp_tree.specs.Elements.{items_of}
use Rattle.mp_tree.specs.Laws.{ArraysReadBack}
use Rattle.mp_tree.specs.Text.{text, data_of, items_data, members_data, data_in}
use Rattle.mp_tree.proofs.Texts.ByName.{by_name-same}
use Rattle.mp_tree.proofs.Texts.RoundTrip.{IsUtf8-text, has_number, reads_same_tokens}
use Rattle.mp_tree.proofs.Texts.Written.{from_data-data_of}

-- ---- the lexemes after a text are those of what follows it, if that begins no word

-- two texts that begin no word have the same lexemes
pub record AreAlike (r s : List ℕ) : Type 0 where
  pub first : ends_word r ≡ true
  pub second : ends_word s ≡ true
  pub lexemes : lex between r ≡ lex between s

lex-quoted : (s r : List ℕ) → lex between (quoted s ++ r) ≡ token (string s) ∷ lex between r
unfolding lex
lex-quoted s r = ap (λ l. lex between (34 ∷ l)) (append_assoc (escape s) (34 ∷ []) r) ∙ ap₂ (λ o l. token (string_token o) ∷ l) (content-escape s r) (lex-escape s r)

lex-true : (r : List ℕ) → ends_word r ≡ true → lex between (text (flag true) ++ r) ≡ token (boolean true) ∷ lex between r
unfolding lex word
lex-true r ends = ap₂ (λ b l. token (cond b (boolean true) bad) ∷ l) ends (in_word-ended r ends)

lex-false : (r : List ℕ) → ends_word r ≡ true → lex between (text (flag false) ++ r) ≡ token (boolean false) ∷ lex between r
unfolding lex word
lex-false r ends = ap₂ (λ b l. token (cond b (boolean false) bad) ∷ l) ends (in_word-ended r ends)

lex-null : (r : List ℕ) → ends_word r ≡ true → lex between (text no_value ++ r) ≡ token null ∷ lex between r
unfolding lex word
lex-null r ends = ap₂ (λ b l. token (cond b null bad) ∷ l) ends (in_word-ended r ends)

-- a value that is one lexeme
one_lexeme : (x r s : List ℕ) (l : Lexeme) → ((t : List ℕ) → ends_word t ≡ true → lex between (x ++ t) ≡ l ∷ lex between t) → AreAlike r s → lex between (x ++ r) ≡ lex between (x ++ s)
one_lexeme x r s l is alike = is r alike.first ∙ ap (λ ls. l ∷ ls) alike.lexemes ∙ sym (is s alike.second)

-- what stands between two elements, or closes
alike_items : (ds : Items) (r s : List ℕ) → lex between (items_text true (items_data ds) ++ r) ≡ lex between (items_text true (items_data ds) ++ s) → AreAlike (items_text true (items_data ds) ++ r) (items_text true (items_data ds) ++ s)
alike_items no_items r s same = record { first = refl; second = refl; lexemes = same }
alike_items (item d ds) r s same = record { first = refl; second = refl; lexemes = same }

alike_members : (ms : Members) (r s : List ℕ) → lex between (members_text true (members_data ms) ++ r) ≡ lex between (members_text true (members_data ms) ++ s)
    → AreAlike (members_text true (members_data ms) ++ r) (members_text true (members_data ms) ++ s)
alike_members no_members r s same = record { first = refl; second = refl; lexemes = same }
alike_members (member n d ms) r s same = record { first = refl; second = refl; lexemes = same }

after_comma : (later : Bool) (r s : List ℕ) → lex between r ≡ lex between s → lex between (comma_if later ++ r) ≡ lex between (comma_if later ++ s)
unfolding lex
after_comma true r s same = ap (λ ls. comma ∷ ls) same
after_comma false r s same = same

mutual
  unfolding lex

  pub lex-text : (d : Document) → IsInRange d → (r s : List ℕ) → AreAlike r s → lex between (text d ++ r) ≡ lex between (text d ++ s)
  lex-text no_value range r s alike = one_lexeme (text no_value) r s _ lex-null alike
  lex-text (flag true) range r s alike = one_lexeme (text (flag true)) r s _ lex-true alike
  lex-text (flag false) range r s alike = one_lexeme (text (flag false)) r s _ lex-false alike
  lex-text (whole z) range r s alike = one_lexeme (number_text (of_integer z)) r s _ (λ t. lex-number _ t (has_number z range)) alike
  lex-text (text_value x) range r s alike = one_lexeme (quoted x) r s _ (λ t ends. lex-quoted x t) alike
  lex-text (list ds) range r s alike = ap (λ ls. token begin_array ∷ ls) (lex-items false ds range r s alike)
  lex-text (object ms) range r s alike = ap (λ ls. token begin_object ∷ ls) (lex-members false ms range r s alike)

  lex-items : (later : Bool) (ds : Items) → ThroughoutItems IsWhole (λ s. Unit {0}) ds → (r s : List ℕ) → AreAlike r s → lex between (items_text later (items_data ds) ++ r) ≡ lex between (items_text later (items_data ds) ++ s)
  lex-items later no_items range r s alike = ap (λ ls. token end_array ∷ ls) alike.lexemes
  lex-items later (item d ds) range r s alike =
      let rest = items_text true (items_data ds) in
      let regroup = λ (t : List ℕ). append_assoc (comma_if later) (text d ++ rest) t ∙ ap (λ l. comma_if later ++ l) (append_assoc (text d) rest t) in
      ap (lex between) (regroup r)
      ∙ after_comma later _ _ (lex-text d range.0 _ _ (alike_items ds r s (lex-items true ds range.1 r s alike)))
      ∙ sym (ap (lex between) (regroup s))

  lex-members : (later : Bool) (ms : Members) → ThroughoutMembers IsWhole (λ s. Unit {0}) ms → (r s : List ℕ) → AreAlike r s → lex between (members_text later (members_data ms) ++ r) ≡ lex between (members_text later (members_data ms) ++ s)
  lex-members later no_members range r s alike = ap (λ ls. token end_object ∷ ls) alike.lexemes
  lex-members later (member n d ms) range r s alike =
      let rest = members_text true (members_data ms) in
      let regroup = λ (t : List ℕ). append_assoc (comma_if later) (quoted n ++ 58 ∷ (text d ++ rest)) t
      ∙ ap (λ l. comma_if later ++ l) (append_assoc (quoted n) (58 ∷ (text d ++ rest)) t ∙ ap (λ l. quoted n ++ 58 ∷ l) (append_assoc (text d) rest t)) in
      let value = lex-text d range.1 _ _ (alike_members ms r s (lex-members true ms range.2 r s alike)) in
      ap (lex between) (regroup r)
      ∙ after_comma later _ _ (lex-quoted n _ ∙ ap (λ ls. token (string n) ∷ colon ∷ ls) value ∙ sym (lex-quoted n _))
      ∙ sym (ap (lex between) (regroup s))

-- ---- white space

lex-space : (c : ℕ) (r : List ℕ) → IsSpace c → lex between (c ∷ r) ≡ lex between r
unfolding lex
lex-space c r (inl is) = rw is
lex-space c r (inr (inl is)) = rw is
lex-space c r (inr (inr (inl is))) = rw is
lex-space c r (inr (inr (inr is))) = rw is

ends-space : (c : ℕ) (r : List ℕ) → IsSpace c → ends_word (c ∷ r) ≡ true
ends-space c r (inl is) = rw is
ends-space c r (inr (inl is)) = rw is
ends-space c r (inr (inr (inl is))) = rw is
ends-space c r (inr (inr (inr is))) = rw is

lex-spaces : (g r : List ℕ) → All IsSpace g → lex between (g ++ r) ≡ lex between r
lex-spaces [] r spaces = refl
lex-spaces (c ∷ g) r spaces = lex-space c (g ++ r) (All-head IsSpace c g spaces) ∙ lex-spaces g r (All-tail IsSpace c g spaces)

ends-spaces : (g r : List ℕ) → All IsSpace g → ends_word r ≡ true → ends_word (g ++ r) ≡ true
ends-spaces [] r spaces ends = ends
ends-spaces (c ∷ g) r spaces ends = ends-space c (g ++ r) (All-head IsSpace c g spaces)

IsUtf8-space : (c : ℕ) → IsSpace c → IsUtf8 (c ∷ [])
IsUtf8-space c (inl is) = rw is (IsUtf8-are_ascii (32 ∷ []) refl)
IsUtf8-space c (inr (inl is)) = rw is (IsUtf8-are_ascii (9 ∷ []) refl)
IsUtf8-space c (inr (inr (inl is))) = rw is (IsUtf8-are_ascii (10 ∷ []) refl)
IsUtf8-space c (inr (inr (inr is))) = rw is (IsUtf8-are_ascii (13 ∷ []) refl)

IsUtf8-spaces : (g : List ℕ) → All IsSpace g → IsUtf8 g
IsUtf8-spaces [] spaces = IsUtf8-nil
IsUtf8-spaces (c ∷ g) spaces = IsUtf8-append (c ∷ []) g (IsUtf8-space c (All-head IsSpace c g spaces)) (IsUtf8-spaces g (All-tail IsSpace c g spaces))

-- ---- the elements

-- what follows the first element, up to the bracket that closes and white space
abbrev after_first : List (List ℕ) → List ℕ → List ℕ
after_first ss r = flat_map (λ t. 44 ∷ t) ss ++ 93 ∷ r

after_first-more : (s : List ℕ) (ss : List (List ℕ)) (r : List ℕ) → after_first (s ∷ ss) r ≡ 44 ∷ (s ++ after_first ss r)
after_first-more s ss r = append_assoc (44 ∷ s) (flat_map (λ t. 44 ∷ t) ss) (93 ∷ r)

ends-after_first : (ss : List (List ℕ)) (r : List ℕ) → ends_word (after_first ss r) ≡ true
ends-after_first [] r = refl
ends-after_first (s ∷ ss) r = ap ends_word (after_first-more s ss r)

ends-items : (ds : Items) → ends_word (items_text true (items_data ds)) ≡ true
ends-items no_items = refl
ends-items (item d ds) = refl

lex-nothing : (r : List ℕ) → All IsSpace r → lex between r ≡ []
unfolding lex
lex-nothing r spaces = ap (lex between) (sym (append-nil r)) ∙ lex-spaces r [] spaces

-- an element with what follows it, if both have the lexemes of the compact text
lex-spaced : (d : Document) (s rest compact : List ℕ) → IsInRange d → IsSpaced (text d) s → ends_word rest ≡ true → ends_word compact ≡ true → lex between rest ≡ lex between compact
    → lex between (s ++ rest) ≡ lex between (text d ++ compact)
lex-spaced d s rest compact range spaced ends ended same =
    let regroup : s ++ rest ≡ spaced.before ++ (text d ++ (spaced.after ++ rest)) =
    ap (λ l. l ++ rest) spaced.is ∙ append_assoc spaced.before (text d ++ spaced.after) rest ∙ ap (λ l. spaced.before ++ l) (append_assoc (text d) spaced.after rest) in
    ap (lex between) regroup ∙ lex-spaces spaced.before _ spaced.space_before
    ∙ lex-text d range (spaced.after ++ rest) compact (record {
      first = ends-spaces spaced.after rest spaced.space_after ends;
      second = ended;
      lexemes = lex-spaces spaced.after rest spaced.space_after ∙ same;
    })

lex-after_first : (ds : List Document) (ss : List (List ℕ)) (r : List ℕ) → All IsReadable ds → AllZip IsSpaced (map text ds) ss → All IsSpace r
    → lex between (after_first ss r) ≡ lex between (items_text true (items_data (items_of ds)))
unfolding lex
lex-after_first [] [] r readable are spaces = ap (λ ls. token end_array ∷ ls) (lex-nothing r spaces)
lex-after_first (d ∷ ds) (s ∷ ss) r readable are spaces =
    ap (lex between) (after_first-more s ss r)
    ∙ ap (λ ls. comma ∷ ls) (lex-spaced d s (after_first ss r) (items_text true (items_data (items_of ds))) (All-head IsReadable d ds readable).in_range are.0 (ends-after_first ss r) (ends-items (items_of ds)) (lex-after_first ds ss r (All-tail IsReadable d ds readable) are.1 spaces))
lex-after_first [] (s ∷ ss) r readable are spaces = absurd are
lex-after_first (d ∷ ds) [] r readable are spaces = absurd are

lex-in_brackets : (ds : List Document) (ss : List (List ℕ)) (r : List ℕ) → All IsReadable ds → AllZip IsSpaced (map text ds) ss → All IsSpace r
    → lex between (in_brackets ss ++ r) ≡ lex between (text (list (items_of ds)))
unfolding lex
lex-in_brackets [] [] r readable are spaces = ap (λ ls. token begin_array ∷ token end_array ∷ ls) (lex-nothing r spaces)
lex-in_brackets (d ∷ ds) (s ∷ ss) r readable are spaces =
    let more = flat_map (λ t. 44 ∷ t) ss in
    let regroup : ((s ++ more) ++ 93 ∷ []) ++ r ≡ s ++ after_first ss r = append_assoc (s ++ more) (93 ∷ []) r ∙ append_assoc s more (93 ∷ r) in
    ap (λ l. lex between (91 ∷ l)) regroup
    ∙ ap (λ ls. token begin_array ∷ ls) (lex-spaced d s (after_first ss r) (items_text true (items_data (items_of ds))) (All-head IsReadable d ds readable).in_range are.0 (ends-after_first ss r) (ends-items (items_of ds)) (lex-after_first ds ss r (All-tail IsReadable d ds readable) are.1 spaces))
lex-in_brackets [] (s ∷ ss) r readable are spaces = absurd are
lex-in_brackets (d ∷ ds) [] r readable are spaces = absurd are

-- ---- the bytes are UTF-8

IsUtf8-spaced : (bytes spaced : List ℕ) → IsUtf8 bytes → IsSpaced bytes spaced → IsUtf8 spaced
IsUtf8-spaced bytes spaced utf8 is = subst IsUtf8 (sym is.is)
    (IsUtf8-append _ _ (IsUtf8-spaces is.before is.space_before) (IsUtf8-append _ _ utf8 (IsUtf8-spaces is.after is.space_after)))

IsUtf8-first : (d : Document) (s : List ℕ) → IsReadable d → IsSpaced (text d) s → IsUtf8 s
IsUtf8-first d s readable = IsUtf8-spaced (text d) s (IsUtf8-text d readable.in_range readable.has_texts)

IsUtf8-more : (ds : List Document) (ss : List (List ℕ)) → All IsReadable ds → AllZip IsSpaced (map text ds) ss → IsUtf8 (flat_map (λ t. 44 ∷ t) ss)
IsUtf8-more [] [] readable are = IsUtf8-nil
IsUtf8-more (d ∷ ds) (s ∷ ss) readable are =
    IsUtf8-append (44 ∷ s) _ (IsUtf8-append (44 ∷ []) s (IsUtf8-are_ascii _ refl) (IsUtf8-first d s (All-head IsReadable d ds readable) are.0)) (IsUtf8-more ds ss (All-tail IsReadable d ds readable) are.1)
IsUtf8-more [] (s ∷ ss) readable are = absurd are
IsUtf8-more (d ∷ ds) [] readable are = absurd are

IsUtf8-in_brackets : (ds : List Document) (ss : List (List ℕ)) → All IsReadable ds → AllZip IsSpaced (map text ds) ss → IsUtf8 (in_brackets ss)
IsUtf8-in_brackets [] [] readable are = IsUtf8-are_ascii _ refl
IsUtf8-in_brackets (d ∷ ds) (s ∷ ss) readable are =
    let elements = IsUtf8-append s _ (IsUtf8-first d s (All-head IsReadable d ds readable) are.0) (IsUtf8-more ds ss (All-tail IsReadable d ds readable) are.1) in
    IsUtf8-append (91 ∷ []) _ (IsUtf8-are_ascii _ refl) (IsUtf8-append _ (93 ∷ []) elements (IsUtf8-are_ascii _ refl))
IsUtf8-in_brackets [] (s ∷ ss) readable are = absurd are
IsUtf8-in_brackets (d ∷ ds) [] readable are = absurd are

-- ---- the array

all_in_range : (ds : List Document) → All IsReadable ds → IsInRange (list (items_of ds))
all_in_range [] readable = tt
all_in_range (d ∷ ds) readable = ((All-head IsReadable d ds readable).in_range, all_in_range ds (All-tail IsReadable d ds readable))

all_documents : (ds : List Document) → All IsReadable ds → AreDocuments (items_of ds)
all_documents [] readable = tt
all_documents (d ∷ ds) readable = ((All-head IsReadable d ds readable).is_document, all_documents ds (All-tail IsReadable d ds readable))

all_within : (ds : List Document) → All IsReadable ds → items_depth (items_of ds) ≤ depth_limit
all_within [] readable = omega arith
all_within (d ∷ ds) readable = omega (arith, (All-head IsReadable d ds readable).within, all_within ds (All-tail IsReadable d ds readable))

pub arrays_read_back : ArraysReadBack
arrays_read_back ds bytes readable array =
    let d = list (items_of ds) in
    let inside = in_brackets array.spaced in
    let lexemes : lex between bytes ≡ lex between (text d) =
    ap (lex between) array.is.is ∙ lex-spaces array.is.before _ array.is.space_before ∙ lex-in_brackets ds array.spaced array.is.after readable array.are array.is.space_after in
    let utf8 = IsUtf8-spaced inside bytes (IsUtf8-in_brackets ds array.spaced readable array.are) array.is in
    let is : data_in bytes ≡ Some (data_of d) =
    reads_same_tokens bytes d utf8 (ap (punctuate fresh) lexemes) (all_in_range ds readable) (omega (arith, all_within ds readable))
    ∙ ap (λ e. Some (data_of e)) (by_name-same d (all_documents ds readable)) in
    rw (is, from_data-data_of d (all_documents ds readable)) refl
