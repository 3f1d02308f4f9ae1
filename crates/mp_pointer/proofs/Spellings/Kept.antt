-- Tokens one after another in one text: one more, the first of them, the one at a number, and the text as their spelling.
use Rattle.std.proofs.Common.{◌≡◌, ◌≤◌, ◌<◌, ◌-◌, ℕ, zero, suc, List, [], ◌∷◌, ◌++◌, length, get_or, take, drop, Some, None, refl, sym, ap, ap₂, ◌∙◌, subst, arith, append_assoc, length-append}
use Rattle.std.proofs.Math.Seq.{drop-append_seam, drop-length}
use Rattle.std.proofs.lemmas.List.{take_all, take-append-drop, take-append-le, drop-append-le, length-drop, length-take-le}
use Rattle.std.proofs.lemmas.List.Folds.{drop_split}
use Rattle.std.proofs.lemmas.Option.{slice_get_past}
use Rattle.std.proofs.lemmas.Str.{IsUtf8-append, IsUtf8-nil, IsUtf8-from_ascii, IsCharBoundary-from_drop}
use Rattle.std.specs.List.{slice_get, slice_range}
use Rattle.std.specs.Str.{IsUtf8, IsCharBoundary}
use Rattle.mp_pointer.specs.Bytes.{slash}
use Rattle.mp_pointer.specs.Private.Cuts.{cut, AreCuts, EachPlain, IsPlain}
use Rattle.mp_pointer.specs.Spelling.{spell}
use Rattle.mp_pointer.proofs.Spellings.ReadBack.{escape-plain}

-- ---- a part of what a text begins with

part_of_front : (xs ys : List ℕ) (start end : ℕ) → start ≤ end → end ≤ length xs → slice_range (xs ++ ys) start end ≡ slice_range xs start end
part_of_front xs ys start end rise within =
    ap (take (end - start)) (drop-append-le start xs ys (omega arith))
    ∙ take-append-le (end - start) (drop start xs) ys (omega (arith, length-drop start xs))

part_of_take : (xs : List ℕ) (most start end : ℕ) → start ≤ end → end ≤ most → most ≤ length xs → slice_range (take most xs) start end ≡ slice_range xs start end
part_of_take xs most start end rise below within =
    sym (part_of_front (take most xs) (drop most xs) start end rise (omega (arith, length-take-le most xs within)))
    ∙ ap (λ ys. slice_range ys start end) (take-append-drop most xs)

-- a part with its slash, of another text that has it too
same_part : (xs ys : List ℕ) (start end : ℕ) → ((from : ℕ) → from ≤ end → slice_range ys from end ≡ slice_range xs from end) → start < end → slice_range xs start end ≡ slash ∷ slice_range xs (suc start) end
    → slice_range ys start end ≡ slash ∷ slice_range ys (suc start) end
same_part xs ys start end same rise is = same start (omega arith) ∙ is ∙ ap (λ t. slash ∷ t) (sym (same (suc start) (omega arith)))

-- ---- where the cuts are

cuts_within : (start : ℕ) (ends bytes : List ℕ) → AreCuts start ends bytes → start ≤ length bytes
cuts_within start [] bytes cuts = omega (arith, cuts)
cuts_within start (end ∷ ends) bytes cuts = omega (arith, cuts.0, cuts_within end ends bytes cuts.3)

cuts_rise : (start : ℕ) (ends bytes : List ℕ) (n : ℕ) → AreCuts start ends bytes → n ≤ length ends → start ≤ get_or (start ∷ ends) n 0
cuts_rise start ends bytes zero cuts within = omega arith
cuts_rise start [] bytes (suc n) cuts within = omega (arith, within)
cuts_rise start (end ∷ ends) bytes (suc n) cuts within = omega (arith, cuts.0, cuts_rise end ends bytes n cuts.3 (omega arith))

pub slash_is_text : IsUtf8 (slash ∷ [])
slash_is_text = IsUtf8-from_ascii (slash ∷ []) low
  where
    low : (i : ℕ) → get_or (slash ∷ []) i 0 < 128
    low zero = omega arith
    low (suc i) = omega arith

rest_is_text : (start : ℕ) (ends bytes : List ℕ) → AreCuts start ends bytes → IsUtf8 (drop start bytes)
rest_is_text start [] bytes cuts = subst IsUtf8 (sym (ap (λ n. drop n bytes) cuts ∙ drop-length bytes)) IsUtf8-nil
rest_is_text start (end ∷ ends) bytes cuts =
    subst IsUtf8 (sym (drop_split bytes start end (omega (arith, cuts.0))))
    (IsUtf8-append _ _ (subst IsUtf8 (sym cuts.1) (IsUtf8-append (slash ∷ []) _ slash_is_text cuts.2)) (rest_is_text end ends bytes cuts.3))

-- what follows the first n ends
cuts_after : (start : ℕ) (ends bytes : List ℕ) (n : ℕ) → AreCuts start ends bytes → n ≤ length ends → AreCuts (get_or (start ∷ ends) n 0) (drop n ends) bytes
cuts_after start ends bytes zero cuts within = cuts
cuts_after start [] bytes (suc n) cuts within = absurd (omega (arith, within))
cuts_after start (end ∷ ends) bytes (suc n) cuts within = cuts_after end ends bytes n cuts.3 (omega arith)

cut_within : (start : ℕ) (ends bytes : List ℕ) (n : ℕ) → AreCuts start ends bytes → n ≤ length ends → get_or (start ∷ ends) n 0 ≤ length bytes
cut_within start ends bytes n cuts within = cuts_within _ (drop n ends) bytes (cuts_after start ends bytes n cuts within)

pub cut_is_boundary : (start : ℕ) (ends bytes : List ℕ) (n : ℕ) → AreCuts start ends bytes → n ≤ length ends → IsCharBoundary bytes (get_or (start ∷ ends) n 0)
cut_is_boundary start ends bytes n cuts within =
    let after = cuts_after start ends bytes n cuts within in
    IsCharBoundary-from_drop bytes _ (cuts_within _ (drop n ends) bytes after) (rest_is_text _ (drop n ends) bytes after)

pub cut_rises : (start : ℕ) (ends bytes : List ℕ) (n : ℕ) → AreCuts start ends bytes → n < length ends → get_or (start ∷ ends) n 0 < get_or ends n 0
cut_rises start [] bytes n cuts less = absurd (omega (arith, less))
cut_rises start (end ∷ ends) bytes zero cuts less = cuts.0
cut_rises start (end ∷ ends) bytes (suc n) cuts less = cut_rises end ends bytes n cuts.3 (omega arith)

-- past a slash
pub token_is_boundary : (start : ℕ) (ends bytes : List ℕ) (n : ℕ) → AreCuts start ends bytes → n < length ends → IsCharBoundary bytes (suc (get_or (start ∷ ends) n 0))
token_is_boundary start [] bytes n cuts less = absurd (omega (arith, less))
token_is_boundary start (end ∷ ends) bytes zero cuts less =
    IsCharBoundary-from_drop bytes (suc start) (omega (arith, cuts.0, cuts_within end ends bytes cuts.3))
    (subst IsUtf8 (sym (drop_split bytes (suc start) end (omega (arith, cuts.0)))) (IsUtf8-append _ _ cuts.2 (rest_is_text end ends bytes cuts.3)))
token_is_boundary start (end ∷ ends) bytes (suc n) cuts less = token_is_boundary end ends bytes n cuts.3 (omega arith)

-- ---- the tokens

pub length-cut : (start : ℕ) (ends bytes : List ℕ) → length (cut start ends bytes) ≡ length ends
length-cut start [] bytes = refl
length-cut start (end ∷ ends) bytes = ap suc (length-cut end ends bytes)

pub cut_at : (start : ℕ) (ends bytes : List ℕ) (n : ℕ) → n < length ends → slice_get (cut start ends bytes) n ≡ Some (slice_range bytes (suc (get_or (start ∷ ends) n 0)) (get_or ends n 0))
cut_at start [] bytes n less = absurd (omega (arith, less))
cut_at start (end ∷ ends) bytes zero less = refl
cut_at start (end ∷ ends) bytes (suc n) less = cut_at end ends bytes n (omega arith)

pub cut-none : (start : ℕ) (ends bytes : List ℕ) (n : ℕ) → length ends ≤ n → slice_get (cut start ends bytes) n ≡ None
cut-none start ends bytes n past = slice_get_past (cut start ends bytes) n (omega (arith, length-cut start ends bytes, past))

-- one more, with the slash before it
last_part : (start : ℕ) (bytes more : List ℕ) → start ≡ length bytes → slice_range (bytes ++ more) start (length (bytes ++ more)) ≡ more
last_part start bytes more is =
    ap (λ n. slice_range (bytes ++ more) n (length (bytes ++ more))) is
    ∙ ap (take (length (bytes ++ more) - length bytes)) (drop-append_seam bytes more)
    ∙ take_all (length (bytes ++ more) - length bytes) more (omega (arith, length-append bytes more))

last_token : (start : ℕ) (bytes token : List ℕ) → start ≡ length bytes → slice_range (bytes ++ slash ∷ token) (suc start) (length (bytes ++ slash ∷ token)) ≡ token
last_token start bytes token is =
    let all : bytes ++ slash ∷ token ≡ (bytes ++ slash ∷ []) ++ token = sym (append_assoc bytes (slash ∷ []) token) in
    ap (λ xs. slice_range xs (suc start) (length xs)) all ∙ last_part (suc start) (bytes ++ slash ∷ []) token (omega (arith, is, length-append bytes (slash ∷ [])))

pub cut-push : (start : ℕ) (ends bytes token : List ℕ) → AreCuts start ends bytes → cut start (ends ++ length (bytes ++ slash ∷ token) ∷ []) (bytes ++ slash ∷ token) ≡ cut start ends bytes ++ token ∷ []
cut-push start [] bytes token cuts = ap (λ t. t ∷ []) (last_token start bytes token cuts)
cut-push start (end ∷ ends) bytes token cuts =
    ap₂ (λ t ts. t ∷ ts) (part_of_front bytes (slash ∷ token) (suc start) end (omega (arith, cuts.0)) (cuts_within end ends bytes cuts.3)) (cut-push end ends bytes token cuts.3)

pub AreCuts-push : (start : ℕ) (ends bytes token : List ℕ) → IsUtf8 token → AreCuts start ends bytes → AreCuts start (ends ++ length (bytes ++ slash ∷ token) ∷ []) (bytes ++ slash ∷ token)
AreCuts-push start [] bytes token is_text cuts = (
  omega (arith, cuts, length-append bytes (slash ∷ token)),
  last_part start bytes (slash ∷ token) cuts ∙ ap (λ t. slash ∷ t) (sym (last_token start bytes token cuts)),
  subst IsUtf8 (sym (last_token start bytes token cuts)) is_text,
  refl,
)
AreCuts-push start (end ∷ ends) bytes token is_text cuts =
    let within = cuts_within end ends bytes cuts.3 in (
      cuts.0,
      same_part bytes (bytes ++ slash ∷ token) start end (λ from below. part_of_front bytes (slash ∷ token) from end below within) cuts.0 cuts.1,
      subst IsUtf8 (sym (part_of_front bytes (slash ∷ token) (suc start) end (omega (arith, cuts.0)) within)) cuts.2,
      AreCuts-push end ends bytes token is_text cuts.3,
    )

-- the first n
pub cut-take : (start : ℕ) (ends bytes : List ℕ) (n : ℕ) → AreCuts start ends bytes → n ≤ length ends → cut start (take n ends) (take (get_or (start ∷ ends) n 0) bytes) ≡ take n (cut start ends bytes)
cut-take start ends bytes zero cuts within = refl
cut-take start [] bytes (suc n) cuts within = refl
cut-take start (end ∷ ends) bytes (suc n) cuts within =
    let most = get_or (end ∷ ends) n 0 in
    ap₂ (λ t ts. t ∷ ts)
    (part_of_take bytes most (suc start) end (omega (arith, cuts.0)) (cuts_rise end ends bytes n cuts.3 (omega arith)) (cut_within end ends bytes n cuts.3 (omega arith)))
    (cut-take end ends bytes n cuts.3 (omega arith))

pub AreCuts-take : (start : ℕ) (ends bytes : List ℕ) (n : ℕ) → AreCuts start ends bytes → n ≤ length ends → AreCuts start (take n ends) (take (get_or (start ∷ ends) n 0) bytes)
AreCuts-take start ends bytes zero cuts within = sym (length-take-le start bytes (cuts_within start ends bytes cuts))
AreCuts-take start [] bytes (suc n) cuts within = absurd (omega (arith, within))
AreCuts-take start (end ∷ ends) bytes (suc n) cuts within =
    let most = get_or (end ∷ ends) n 0 in
    let same : (from : ℕ) → from ≤ end → slice_range (take most bytes) from end ≡ slice_range bytes from end = λ from below. part_of_take bytes most from end below (cuts_rise end ends bytes n cuts.3 (omega arith)) (cut_within end ends bytes n cuts.3 (omega arith)) in (
      cuts.0,
      same_part bytes (take most bytes) start end same cuts.0 cuts.1,
      subst IsUtf8 (sym (same (suc start) (omega (arith, cuts.0)))) cuts.2,
      AreCuts-take end ends bytes n cuts.3 (omega arith),
    )

-- ---- tokens that are spelled as they are

pub EachPlain-push : (texts : List (List ℕ)) (text : List ℕ) → EachPlain texts → IsPlain text → EachPlain (texts ++ text ∷ [])
EachPlain-push [] text each plain = (plain, tt)
EachPlain-push (t ∷ texts) text each plain = (each.0, EachPlain-push texts text each.1 plain)

pub EachPlain-take : (n : ℕ) (texts : List (List ℕ)) → EachPlain texts → EachPlain (take n texts)
EachPlain-take zero texts each = tt
EachPlain-take (suc n) [] each = tt
EachPlain-take (suc n) (t ∷ texts) each = (each.0, EachPlain-take n texts each.1)

pub text_is_spelling : (start : ℕ) (ends bytes : List ℕ) → AreCuts start ends bytes → EachPlain (cut start ends bytes) → drop start bytes ≡ spell (cut start ends bytes)
text_is_spelling start [] bytes cuts each = ap (λ n. drop n bytes) cuts ∙ drop-length bytes
text_is_spelling start (end ∷ ends) bytes cuts each =
    let token = slice_range bytes (suc start) end in
    drop_split bytes start end (omega (arith, cuts.0))
    ∙ ap₂ (λ xs ys. xs ++ ys) (cuts.1 ∙ ap (λ t. slash ∷ t) (sym (escape-plain token (λ k less. (each.0 k less).1) (λ k less. (each.0 k less).0)))) (text_is_spelling end ends bytes cuts.3 each.1)
