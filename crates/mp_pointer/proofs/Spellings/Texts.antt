-- The tokens of a pointer whose spelling is UTF-8 are UTF-8.
use Rattle.std.proofs.Common.{◌≡◌, ◌<◌, ◌+◌, ◌==◌, ℕ, suc, Bool, true, false, cond, List, [], ◌∷◌, ◌++◌, length, get_or, take, drop, IsUtf8, refl, sym, ap, ◌∙◌, subst, arith, append_assoc, append-nil}
use Rattle.std.proofs.lemmas.Bool.{eqb-true}
use Rattle.std.proofs.lemmas.List.Elements.{All-cons, All-nil}
use Rattle.std.proofs.lemmas.Str.{IsUtf8-append, IsUtf8-drop, IsUtf8-take, IsCharBoundary-after_ascii, IsCharBoundary-before_ascii}
use Rattle.std.specs.List.{All}
use Rattle.mp_tree.proofs.Facts.{IsUtf8-ascii}
use Rattle.mp_pointer.specs.Bytes.{slash, tilde}
use Rattle.mp_pointer.specs.Laws.{TokensAreTexts}
use Rattle.mp_pointer.specs.Spelling.{Tokens, escape, spell}

-- ---- a text cut at an ASCII byte

seam_take : (xs ys : List ℕ) → take (length xs) (xs ++ ys) ≡ xs
seam_take [] ys = refl
seam_take (x ∷ xs) ys = ap (λ (l : List ℕ). x ∷ l) (seam_take xs ys)

seam_drop : (xs : List ℕ) (c : ℕ) (ys : List ℕ) → drop (suc (length xs)) (xs ++ c ∷ ys) ≡ ys
seam_drop [] c ys = refl
seam_drop (x ∷ xs) c ys = seam_drop xs c ys

seam_at : (xs : List ℕ) (c : ℕ) (ys : List ℕ) → get_or (xs ++ c ∷ ys) (length xs) 0 ≡ c
seam_at [] c ys = refl
seam_at (x ∷ xs) c ys = seam_at xs c ys

seam_within : (xs : List ℕ) (c : ℕ) (ys : List ℕ) → length xs < length (xs ++ c ∷ ys)
seam_within [] c ys = omega arith
seam_within (x ∷ xs) c ys = omega (arith, seam_within xs c ys)

cut_ascii : (xs : List ℕ) (c : ℕ) (ys : List ℕ) → c < 128 → IsUtf8 (xs ++ c ∷ ys) → IsUtf8 xs × IsUtf8 ys
cut_ascii xs c ys small utf8 =
    let bs = xs ++ c ∷ ys in
    let n = length xs in
    let within = seam_within xs c ys in
    let ascii : get_or bs n 0 < 128 = omega (arith, seam_at xs c ys) in
    let front = IsUtf8-take bs n utf8 (IsCharBoundary-before_ascii bs n within ascii) in
    let back = IsUtf8-drop bs (n + 1) utf8 (IsCharBoundary-after_ascii bs n utf8 within ascii) in
    let next : n + 1 ≡ suc n = omega arith in (
      subst IsUtf8 (seam_take xs (c ∷ ys)) front,
      subst IsUtf8 (ap (λ (k : ℕ). drop k bs) next ∙ seam_drop xs c ys) back,
    )

-- ---- a token is its spelling without escapes

abbrev Unescapes : List ℕ → Type 0
Unescapes t = (plain : List ℕ) → IsUtf8 (plain ++ escape t) → IsUtf8 (plain ++ t)

ascii_first : (plain : List ℕ) (x : ℕ) (t : List ℕ) → x < 128 → IsUtf8 plain → IsUtf8 t → IsUtf8 (plain ++ x ∷ t)
ascii_first plain x t small one other = IsUtf8-append plain (x ∷ t) one (IsUtf8-append (x ∷ []) t (IsUtf8-ascii x small) other)

escaped_in_two : (plain : List ℕ) (x y : ℕ) (t : List ℕ) → x < 128 → y < 128 → Unescapes t → IsUtf8 (plain ++ tilde ∷ y ∷ escape t) → IsUtf8 (plain ++ x ∷ t)
escaped_in_two plain x y t small also later utf8 =
    let first = cut_ascii plain tilde (y ∷ escape t) (omega arith) utf8 in
    let second = cut_ascii [] y (escape t) also first.1 in
    ascii_first plain x t small first.0 (later [] second.1)

unescape_by : (b c : Bool) (x : ℕ) (t plain : List ℕ) → (b ≡ true → x < 128) → (c ≡ true → x < 128) → Unescapes t
    → IsUtf8 (plain ++ (cond b (tilde ∷ 48 ∷ []) (cond c (tilde ∷ 49 ∷ []) (x ∷ [])) ++ escape t)) → IsUtf8 (plain ++ x ∷ t)
unescape_by true c x t plain one other later utf8 = escaped_in_two plain x 48 t (one refl) (omega arith) later utf8
unescape_by false true x t plain one other later utf8 = escaped_in_two plain x 49 t (other refl) (omega arith) later utf8
unescape_by false false x t plain one other later utf8 =
    subst IsUtf8 (append_assoc plain (x ∷ []) t) (later (plain ++ x ∷ []) (subst IsUtf8 (sym (append_assoc plain (x ∷ []) (escape t))) utf8))

small_byte : (x y : ℕ) → y < 128 → (x == y) ≡ true → x < 128
small_byte x y small same = omega (arith, eqb-true x y same)

unescape : (t : List ℕ) → Unescapes t
unescape [] plain utf8 = utf8
unescape (x ∷ t) plain utf8 = unescape_by (x == tilde) (x == slash) x t plain (small_byte x tilde (omega arith)) (small_byte x slash (omega arith)) (unescape t) utf8

token_text : (token : List ℕ) → IsUtf8 (escape token) → IsUtf8 token
token_text token utf8 = unescape token [] utf8

-- ---- all tokens

tokens_after : (token : List ℕ) (t : Tokens) → IsUtf8 (escape token ++ spell t) → All IsUtf8 (token ∷ t)
tokens_after token [] utf8 = All-cons IsUtf8 token [] (token_text token (subst IsUtf8 (append-nil (escape token)) utf8)) (All-nil IsUtf8)
tokens_after token (u ∷ t) utf8 =
    let cut = cut_ascii (escape token) slash (escape u ++ spell t) (omega arith) utf8 in
    All-cons IsUtf8 token (u ∷ t) (token_text token cut.0) (tokens_after u t cut.1)

pub tokens_are_texts : TokensAreTexts
tokens_are_texts [] utf8 = All-nil IsUtf8
tokens_are_texts (token ∷ t) utf8 = tokens_after token t (cut_ascii [] slash (escape token ++ spell t) (omega arith) utf8).1
