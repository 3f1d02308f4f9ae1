-- A part of what can be read can be read, and a pointer of UTF-8 tokens is spelled in UTF-8.
use Rattle.std.proofs.Common.{◌≡◌, ◌≤◌, ◌<◌, ◌==◌, ℕ, ℤ, suc, Bool, true, false, cond, List, [], ◌∷◌, ◌++◌, length, get_or, Option, None, Some, IfSome, option_and_then, IsUtf8, inl, inr, refl, sym, ap, ap₂, ◌∙◌, subst, arith, append_assoc, append-nil}
use Rattle.std.proofs.lemmas.Bool.{and_parts, cases_lt, ne_eqb}
use Rattle.std.proofs.lemmas.List.Elements.{All-head, All-tail}
use Rattle.std.proofs.lemmas.Str.{IsUtf8-append, IsUtf8-nil, IsUtf8-encode, encode_ascii, inside_one}
use Rattle.std.specs.Str.{bytes_eq}
use lib.Utf8.{encode, encodes, scalar, scalars}
use Rattle.mp_tree.specs.Document.{Document, null, flag, whole, string, list, object, Items, no_items, item, IsWhole, IsInRange, HasTexts, Throughout, ThroughoutItems}
use Rattle.mp_tree.proofs.Facts.{IsUtf8-ascii, Throughout-find}
use Rattle.mp_pointer.specs.Bytes.{slash, tilde}
use Rattle.mp_pointer.specs.Laws.{PartsAreReadable, SpellingsAreTexts}
use Rattle.mp_pointer.specs.Part.{part, child, element_from, numeral}
use Rattle.mp_pointer.specs.Spelling.{Tokens, escaped_byte, escape, spell}
use Rattle.mp_pointer.proofs.Parts.Depths.{part-depth}
use Rattle.mp_pointer.proofs.Parts.Documents.{part-document}

-- ---- what holds of each number and text of a document holds of those of its parts

module _ (N : ℤ → Type 0) (S : List ℕ → Type 0) where
  element-throughout : (i : ℕ) (token : List ℕ) (ds : Items) → ThroughoutItems N S ds → IfSome (element_from i token ds) (Throughout N S)
  element-throughout i token no_items all = tt
  element-throughout i token (item d ds) all = picked (bytes_eq token (numeral i)) (element-throughout (suc i) token ds all.1)
    where
      picked : (b : Bool) → IfSome (element_from (suc i) token ds) (Throughout N S) → IfSome (cond b (Some d) (element_from (suc i) token ds)) (Throughout N S)
      picked true rest = all.0
      picked false rest = rest

  child-throughout : (token : List ℕ) (d : Document) → Throughout N S d → IfSome (child token d) (Throughout N S)
  unfolding child
  child-throughout token null all = tt
  child-throughout token (flag b) all = tt
  child-throughout token (whole z) all = tt
  child-throughout token (string s) all = tt
  child-throughout token (list ds) all = element-throughout 0 token ds all
  child-throughout token (object ms) all = Throughout-find N S token ms all

  part-throughout : (t : Tokens) (d : Document) → Throughout N S d → IfSome (part d t) (Throughout N S)
  part-throughout [] d all = all
  part-throughout (token ∷ t) d all = through (child token d) (child-throughout token d all) (λ e. part-throughout t e)
    where
      through : (o : Option Document) → IfSome o (Throughout N S) → ((e : Document) → Throughout N S e → IfSome (part e t) (Throughout N S)) → IfSome (option_and_then (λ e. part e t) o) (Throughout N S)
      through None here later = tt
      through (Some e) here later = later e here

pub parts_are_readable : PartsAreReadable
parts_are_readable t d x can is = record {
  is_document = part-document t d x can.is_document is;
  has_texts = subst (λ (o : Option Document). IfSome o HasTexts) is (part-throughout (λ z. Unit {0}) IsUtf8 t d can.has_texts);
  in_range = subst (λ (o : Option Document). IfSome o IsInRange) is (part-throughout IsWhole (λ s. Unit {0}) t d can.in_range);
  within = omega (arith, part-depth t d x is, can.within);
}

-- ---- spellings

two_bytes : (x y : ℕ) → x < 128 → y < 128 → IsUtf8 (x ∷ y ∷ [])
two_bytes x y first second = IsUtf8-append (x ∷ []) (y ∷ []) (IsUtf8-ascii x first) (IsUtf8-ascii y second)

either-text : (b : Bool) (x y : List ℕ) → IsUtf8 x → IsUtf8 y → IsUtf8 (cond b x y)
either-text true x y first second = first
either-text false x y first second = second

escaped_byte-text : (c : ℕ) → c < 128 → IsUtf8 (escaped_byte c)
escaped_byte-text c small =
    either-text (c == tilde) _ _ (two_bytes tilde 48 (omega arith) (omega arith))
    (either-text (c == slash) _ _ (two_bytes tilde 49 (omega arith) (omega arith)) (IsUtf8-ascii c small))

escape-append : (xs ys : List ℕ) → escape (xs ++ ys) ≡ escape xs ++ escape ys
escape-append [] ys = refl
escape-append (x ∷ xs) ys = ap (λ l. escaped_byte x ++ l) (escape-append xs ys) ∙ sym (append_assoc (escaped_byte x) (escape xs) (escape ys))

escaped_byte-high : (x : ℕ) → 128 ≤ x → escaped_byte x ≡ x ∷ []
escaped_byte-high x high = rw (ne_eqb x tilde (λ is. omega arith), ne_eqb x slash (λ is. omega arith))

escape-high : (xs : List ℕ) → ((k : ℕ) → k < length xs → 128 ≤ get_or xs k 0) → escape xs ≡ xs
escape-high [] each = refl
escape-high (x ∷ xs) each = ap₂ (λ (a b : List ℕ). a ++ b) (escaped_byte-high x (each 0 (omega arith))) (escape-high xs (λ k below. each (suc k) (omega arith)))

escaped_char : (c : ℕ) → scalar c ≡ true → IsUtf8 (escape (encode c))
escaped_char c ok = elim (cases_lt c 128) [
  | inl small ↦ rw (encode_ascii c small, append-nil) (escaped_byte-text c small)
  | inr big ↦
      let high : (k : ℕ) → k < length (encode c) → 128 ≤ get_or (encode c) k 0 = λ k below. elim (cases_lt (get_or (encode c) k 0) 128) [
        | inl low ↦ absurd (omega (arith, inside_one c [] (encode c) k (sym (append-nil _)) below low))
        | inr h ↦ h
      ] in
      subst IsUtf8 (sym (escape-high (encode c) high)) (IsUtf8-encode c ok)
]

escaped_chars : (cs : List ℕ) → scalars cs ≡ true → IsUtf8 (escape (encodes cs))
escaped_chars [] ok = IsUtf8-nil
escaped_chars (c ∷ cs) ok =
    let both = and_parts _ _ ok in
    subst IsUtf8 (sym (escape-append (encode c) (encodes cs))) (IsUtf8-append _ _ (escaped_char c both.0) (escaped_chars cs both.1))

escape-text : (token : List ℕ) → IsUtf8 token → IsUtf8 (escape token)
escape-text token utf8 = subst (λ l. IsUtf8 (escape l)) utf8.1.1 (escaped_chars utf8.0 utf8.1.0)

pub spellings_are_texts : SpellingsAreTexts
spellings_are_texts [] all = IsUtf8-nil
spellings_are_texts (token ∷ t) all =
    IsUtf8-append (slash ∷ escape token) (spell t) (IsUtf8-append (slash ∷ []) (escape token) (IsUtf8-ascii slash (omega arith)) (escape-text token (All-head IsUtf8 token t all)))
    (spellings_are_texts t (All-tail IsUtf8 token t all))
