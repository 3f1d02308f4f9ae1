-- A spelling without tildes: it is the text that a pointer keeps, cut at its slashes.
use Rattle.std.proofs.Common.{◌≡◌, ◌≢◌, ◌≤◌, ◌<◌, ◌+◌, ◌-◌, ℕ, zero, suc, List, [], ◌∷◌, ◌++◌, length, get_or, drop, Bool, true, false, if◌then◌else◌, ◌==◌, eqb, refl, sym, ap, ◌∙◌, subst, arith, ne_eqb, eqb-true, append_assoc}
use Rattle.std.proofs.Math.Seq.{drop-cons, drop-length}
use Rattle.std.proofs.lemmas.Bool.Decides.{nat_tests}
use Rattle.std.proofs.lemmas.List.{get_or-drop, get_or-take, length-drop, length-take-le}
use Rattle.std.proofs.lemmas.Str.{IsUtf8-append, IsUtf8-between, IsCharBoundary-after_ascii, IsCharBoundary-end}
use Rattle.std.specs.List.{slice_range}
use Rattle.std.specs.Str.{IsUtf8, IsCharBoundary}
use Rattle.mp_pointer.specs.Bytes.{slash, tilde}
use Rattle.mp_pointer.specs.Private.Cuts.{cut, AreCuts, EachPlain, IsKept, IsPlain}
use Rattle.mp_pointer.specs.Spelling.{spell}
use Rattle.mp_pointer.proofs.Spellings.Kept.{text_is_spelling, slash_is_text}
use Rattle.mp_pointer.proofs.Spellings.ReadBack.{Lacks}

-- where the tokens end in what is left of a text, whose first byte stands at `next`
abbrev pub ends_in : ℕ → List ℕ → List ℕ
ends_in next [] = next ∷ []
ends_in next (c ∷ rest) = if c == slash then next ∷ ends_in (suc next) rest else ends_in (suc next) rest

-- ---- one byte more, and the end

pub ends_in-slash : (ends rest : List ℕ) (offset : ℕ) → offset < length rest → get_or rest offset 0 ≡ slash → (ends ++ (offset + 1) ∷ []) ++ ends_in (suc (offset + 1)) (drop (offset + 1) rest) ≡ ends ++ ends_in (suc offset) (drop offset rest)
ends_in-slash ends rest offset less is =
    let next : offset + 1 ≡ suc offset = omega arith in
    append_assoc ends ((offset + 1) ∷ []) (ends_in (suc (offset + 1)) (drop (offset + 1) rest)) ∙ rw (next, drop-cons rest offset 0 less, is) refl

pub ends_in-other : (ends rest : List ℕ) (offset : ℕ) → offset < length rest → get_or rest offset 0 ≢ slash → ends ++ ends_in (suc (offset + 1)) (drop (offset + 1) rest) ≡ ends ++ ends_in (suc offset) (drop offset rest)
ends_in-other ends rest offset less other =
    let next : offset + 1 ≡ suc offset = omega arith in
    rw (next, drop-cons rest offset 0 less, ne_eqb (get_or rest offset 0) slash other) refl

pub ends_in-end : (ends rest : List ℕ) (offset : ℕ) → offset ≡ length rest → ends ++ (length rest + 1) ∷ [] ≡ ends ++ ends_in (suc offset) (drop offset rest)
ends_in-end ends rest offset at_end =
    let next : length rest + 1 ≡ suc (length rest) = omega arith in
    rw (at_end, next, drop-length rest) refl

-- ---- the part between the slash at `start` and `end`

part_begins : (bytes : List ℕ) (start end : ℕ) → start < end → end ≤ length bytes → get_or bytes start 0 ≡ slash → slice_range bytes start end ≡ slash ∷ slice_range bytes (suc start) end
part_begins bytes start end rise within is =
    let count : end - start ≡ suc (end - suc start) = omega arith in
    rw (count, drop-cons bytes start 0 (omega arith), is) refl

part_is_text : (bytes : List ℕ) (start end : ℕ) → IsUtf8 bytes → start < end → end ≤ length bytes → get_or bytes start 0 ≡ slash → IsCharBoundary bytes end → IsUtf8 (slice_range bytes (suc start) end)
part_is_text bytes start end is_text rise within is boundary =
    let first = IsCharBoundary-after_ascii bytes start is_text (omega arith) (omega (arith, is)) in
    let past : start + 1 ≡ suc start = omega arith in
    IsUtf8-between bytes (suc start) end is_text (omega arith) (subst (IsCharBoundary bytes) past first) boundary

part_is_plain : (bytes : List ℕ) (start end : ℕ) → end ≤ length bytes → Lacks tilde bytes → ((k : ℕ) → start < k → k < end → get_or bytes k 0 ≢ slash) → IsPlain (slice_range bytes (suc start) end)
part_is_plain bytes start end within no_tilde no_slash k below =
    let short : k < end - suc start = omega (arith, below, length-take-le (end - suc start) (drop (suc start) bytes) (omega (arith, length-drop (suc start) bytes))) in
    let here : get_or (slice_range bytes (suc start) end) k 0 ≡ get_or bytes (suc start + k) 0 = get_or-take (end - suc start) (drop (suc start) bytes) k 0 short ∙ get_or-drop (suc start) bytes k 0 in
    (λ e. no_tilde (suc start + k) (omega arith) (sym here ∙ e), λ e. no_slash (suc start + k) (omega arith) (omega arith) (sym here ∙ e))

-- ---- all of them

abbrev Cuts : List ℕ → ℕ → List ℕ → Type 0
Cuts bytes start ends = AreCuts start ends bytes × EachPlain (cut start ends bytes)

one_more : (bytes : List ℕ) (start next : ℕ) (ends : List ℕ) → IsUtf8 bytes → Lacks tilde bytes → start < next → next ≤ length bytes → get_or bytes start 0 ≡ slash → ((k : ℕ) → start < k → k < next → get_or bytes k 0 ≢ slash) → IsCharBoundary bytes next
    → Cuts bytes next ends → Cuts bytes start (next ∷ ends)
one_more bytes start next ends is_text no_tilde rise within is between boundary (cuts, plain) = (
  (rise, part_begins bytes start next rise within is, part_is_text bytes start next is_text rise within is boundary, cuts),
  (part_is_plain bytes start next within no_tilde between, plain),
)

cuts_in : (bytes : List ℕ) → IsUtf8 bytes → Lacks tilde bytes → (rest : List ℕ) (start next : ℕ) → next + length rest ≡ length bytes → drop next bytes ≡ rest → start < next → get_or bytes start 0 ≡ slash → ((k : ℕ) → start < k → k < next → get_or bytes k 0 ≢ slash)
    → Cuts bytes start (ends_in next rest)
cuts_in bytes is_text no_tilde [] start next long left rise is between =
    let at_end : next ≡ length bytes = omega arith in
    one_more bytes start next [] is_text no_tilde rise (omega arith) is between (subst (IsCharBoundary bytes) (sym at_end) (IsCharBoundary-end bytes)) (at_end, search)
cuts_in bytes is_text no_tilde (c ∷ rest) start next long left rise is between =
    let first : get_or bytes next 0 ∷ drop (suc next) bytes ≡ c ∷ rest = sym (drop-cons bytes next 0 (omega arith)) ∙ left in
    let here : get_or bytes next 0 ≡ c = cc in
    let later : drop (suc next) bytes ≡ rest = cc in
    by (eqb c slash) refl here
    (λ is_slash. cuts_in bytes is_text no_tilde rest next (suc next) (omega arith) later (omega arith) (here ∙ is_slash) (λ k above below. absurd (omega arith)))
    (λ further. cuts_in bytes is_text no_tilde rest start (suc next) (omega arith) later (omega arith) is further)
  where
    by : (b : Bool) → eqb c slash ≡ b → get_or bytes next 0 ≡ c
        → (c ≡ slash → Cuts bytes next (ends_in (suc next) rest))
        → (((k : ℕ) → start < k → k < suc next → get_or bytes k 0 ≢ slash) → Cuts bytes start (ends_in (suc next) rest))
        → Cuts bytes start (if b then next ∷ ends_in (suc next) rest else ends_in (suc next) rest)
    by true e here ends goes_on =
        let is_slash : c ≡ slash = eqb-true c slash e in
        one_more bytes start next _ is_text no_tilde rise (omega arith) is between (omega arith, λ _ high. absurd (omega (arith, high, here, is_slash))) (ends is_slash)
    by false e here ends goes_on = goes_on (λ k above below. at k (eqb k next) refl above below)
      where
        at : (k : ℕ) (b : Bool) → eqb k next ≡ b → start < k → k < suc next → get_or bytes k 0 ≢ slash
        at k true same above below = λ k_is. (let last : k ≡ next = eqb-true k next same in let other : c ≢ slash = grind (arith, nat_tests) in other (sym here ∙ ap (λ i. get_or bytes i 0) (sym last) ∙ k_is))
        at k false other above below = between k above (grind (arith, nat_tests))

-- the text after the first slash, if its tokens end, and the slash itself
pub kept_plain : (rest : List ℕ) → IsUtf8 rest → Lacks tilde rest → IsKept true (ends_in 1 rest) (slash ∷ rest)
kept_plain rest is_text no_tilde =
    let bytes = slash ∷ rest in
    let all = cuts_in bytes (IsUtf8-append (slash ∷ []) rest slash_is_text is_text) (lacks no_tilde) rest 0 1 (omega arith) refl (omega arith) refl (λ k above below. absurd (omega arith)) in
    record { cuts = all.0; plain = λ _. all.1 }
  where
    lacks : Lacks tilde rest → Lacks tilde (slash ∷ rest)
    lacks no_tilde zero less = λ e. omega arith
    lacks no_tilde (suc k) less = no_tilde k (omega arith)

pub spelled_plain : (rest : List ℕ) → IsUtf8 rest → Lacks tilde rest → slash ∷ rest ≡ spell (cut 0 (ends_in 1 rest) (slash ∷ rest))
spelled_plain rest is_text no_tilde =
    let kept = kept_plain rest is_text no_tilde in
    text_is_spelling 0 (ends_in 1 rest) (slash ∷ rest) kept.cuts (kept.plain refl)
