-- Lists of tokens: where one begins with another, what the last of them is, and equality.
use Rattle.std.proofs.Common.{◌≡◌, ◌≢◌, ◌<◌, ◌+◌, ◌-◌, ℕ, List, [], ◌∷◌, ◌++◌, length, get_or, take, drop, Some, refl, sym, ap, ap₂, ◌∙◌, arith, Bool, true, false, not, true≢false, append-nil, length-append}
use Rattle.std.proofs.Math.Seq.{take-append_seam}
use Rattle.std.proofs.lemmas.List.{take_all, take-append-drop, take_more, take_more_same, drop_more, get_or_append_left}
use Rattle.std.proofs.lemmas.Option.{slice_get_within, get_or_from_slice_get}
use Rattle.std.proofs.lemmas.Slice.Eq.{bytes_eq-Decides}
use Rattle.std.specs.Bool.{Decides}
use Rattle.std.specs.Cmp.Lexicographic.{pointwise_decides}
use Rattle.std.specs.List.{slice_get}
use Rattle.std.specs.Str.{bytes_eq}
use Rattle.mp_tree.proofs.Facts.{decide_name}
use Rattle.mp_pointer.specs.Laws.{ComparesTokens}
use Rattle.mp_pointer.specs.Spelling.{Tokens, BeginsWith, IsProperPrefix, are_same_tokens}

-- one more token is taken, or dropped
pub take_token : (t : Tokens) (i : ℕ) (x : List ℕ) → slice_get t i ≡ Some x → take (i + 1) t ≡ take i t ++ x ∷ []
take_token t i x here = take_more t i [] (slice_get_within t i x here) ∙ ap (λ y. take i t ++ y ∷ []) (get_or_from_slice_get t i x [] here)

pub drop_token : (t : Tokens) (i : ℕ) (x : List ℕ) → slice_get t i ≡ Some x → drop i t ≡ x ∷ drop (i + 1) t
drop_token t i x here = drop_more t i [] (slice_get_within t i x here) ∙ ap (λ y. y ∷ drop (i + 1) t) (get_or_from_slice_get t i x [] here)

pub take_step : (t u : Tokens) (i : ℕ) (x : List ℕ) → slice_get t i ≡ Some x → slice_get u i ≡ Some x → take i t ≡ take i u → take (i + 1) t ≡ take (i + 1) u
take_step t u i x here there so_far = take_more_same t u i [] (slice_get_within t i x here) (slice_get_within u i x there) so_far (get_or_from_slice_get t i x [] here ∙ sym (get_or_from_slice_get u i x [] there))

-- ---- where one begins with another

pub begins_with : (t u : Tokens) → take (length t) t ≡ take (length t) u → BeginsWith u t
begins_with t u same =
    let n = length t in
    (drop n u, sym (take-append-drop n u) ∙ ap (λ xs. xs ++ drop n u) (sym same ∙ take_all n t (omega arith)))

pub no_front_of_other : (t u : Tokens) (i : ℕ) (x y : List ℕ) → slice_get t i ≡ Some x → slice_get u i ≡ Some y → x ≢ y → ¬ BeginsWith u t
no_front_of_other t u i x y here there differ (rest, is) =
    differ (sym (get_or_from_slice_get t i x [] here) ∙ sym (get_or_append_left t rest [] i (slice_get_within t i x here)) ∙ ap (λ xs. get_or xs i []) (sym is) ∙ get_or_from_slice_get u i y [] there)

pub proper_prefix : (t u : Tokens) → length t < length u → BeginsWith u t → IsProperPrefix t u
proper_prefix t u less ([], is) = absurd (omega (arith, less, ap length (is ∙ append-nil t)))
proper_prefix t u less (next ∷ rest, is) = (next, rest, is)

pub prefix_begins : (t u : Tokens) → IsProperPrefix t u → (length t < length u) × BeginsWith u t
prefix_begins t u (next, rest, is) = (omega (arith, ap length is, length-append t (next ∷ rest)), (next ∷ rest, is))

-- tokens that gain one and then lose their last one
pub back_again : (t : Tokens) (n : List ℕ) (pushed walked popped : Tokens) → pushed ≡ t ++ n ∷ [] → walked ≡ pushed → popped ≡ take (length walked - 1) walked → popped ≡ t
back_again t n pushed walked popped gained same lost = lost ∙ ap (λ w. take (length w - 1) w) (same ∙ gained) ∙ without_last t
  where
    less_one : (k : ℕ) → k + 1 - 1 ≡ k
    less_one k = omega arith

    without_last : (t : Tokens) → take (length (t ++ n ∷ []) - 1) (t ++ n ∷ []) ≡ t
    without_last t = ap (λ k. take (k - 1) (t ++ n ∷ [])) (length-append t (n ∷ [])) ∙ ap (λ k. take k (t ++ n ∷ [])) (less_one (length t)) ∙ take-append_seam t (n ∷ [])

pub same_from_front : (t u : Tokens) → length t ≡ length u → BeginsWith u t → t ≡ u
same_from_front t u long ([], is) = sym (is ∙ append-nil t)
same_from_front t u long (next ∷ rest, is) = absurd (omega (arith, long, ap length is, length-append t (next ∷ rest)))

pub front_of_same : (t u : Tokens) → t ≡ u → BeginsWith u t
front_of_same t u same = ([], sym same ∙ sym (append-nil t))

pub are_same_tokens-Decides : (t u : Tokens) → Decides (are_same_tokens t u) (t ≡ u)
are_same_tokens-Decides = pointwise_decides bytes_eq-Decides

pub compares_tokens : ComparesTokens
compares_tokens = are_same_tokens-Decides

pub root_is_prefix : (f t : Tokens) → f ≡ [] → f ≢ t → IsProperPrefix f t
root_is_prefix f [] root other = absurd (other root)
root_is_prefix f (n ∷ t) root other = (n, t, ap (λ s. s ++ n ∷ t) (sym root))

pub decide_prefix : (f t : Tokens) → Dec (IsProperPrefix f t)
decide_prefix [] [] = no (λ (n, rest, is). cc)
decide_prefix [] (m ∷ t) = yes (m, t, refl)
decide_prefix (k ∷ f) [] = no (λ (n, rest, is). cc)
decide_prefix (k ∷ f) (m ∷ t) = by (decide_name k m) (decide_prefix f t)
  where
    by : Dec (k ≡ m) → Dec (IsProperPrefix f t) → Dec (IsProperPrefix (k ∷ f) (m ∷ t))
    by (yes same) (yes p) = yes (p.0, p.1, (let rest = p.2 in cc))
    by (yes same) (no other) = no (λ (n, rest, is). other (n, rest, cc))
    by (no other) d = no (λ (n, rest, is). other (cc))

-- ---- the last of them

pub last_of : (n : List ℕ) (t : Tokens) → (s : Tokens) × (m : List ℕ) × (n ∷ t ≡ s ++ m ∷ [])
last_of n [] = ([], n, refl)
last_of n (m ∷ t) = let rest = last_of m t in (n ∷ rest.0, rest.1, ap (λ u. n ∷ u) rest.2)

pub some_last : (t : Tokens) → t ≢ [] → (s : Tokens) × (n : List ℕ) × (t ≡ s ++ n ∷ [])
some_last [] other = absurd (other refl)
some_last (n ∷ t) other = last_of n t

pub same_last : (s t : Tokens) (m n : List ℕ) → s ++ m ∷ [] ≡ t ++ n ∷ [] → (s ≡ t) × (m ≡ n)
same_last [] [] m n e = (refl, cc)
same_last [] (y ∷ []) m n e = absurd (longer e)
  where
    longer : m ∷ [] ≡ y ∷ n ∷ [] → ⊥
    longer e = cc
same_last [] (y ∷ z ∷ t) m n e = absurd (longer e)
  where
    longer : m ∷ [] ≡ y ∷ z ∷ (t ++ n ∷ []) → ⊥
    longer e = cc
same_last (x ∷ []) [] m n e = absurd (longer e)
  where
    longer : x ∷ m ∷ [] ≡ n ∷ [] → ⊥
    longer e = cc
same_last (x ∷ z ∷ s) [] m n e = absurd (longer e)
  where
    longer : x ∷ z ∷ (s ++ m ∷ []) ≡ n ∷ [] → ⊥
    longer e = cc
same_last (x ∷ s) (y ∷ t) m n e =
    let later : s ++ m ∷ [] ≡ t ++ n ∷ [] = cc in
    let rest = same_last s t m n later in
    let here : x ≡ y = cc in
    (ap₂ (λ a b. a ∷ b) here rest.0, rest.1)

pub not_empty : (s : Tokens) (n : List ℕ) → s ++ n ∷ [] ≢ []
not_empty [] n e = cc
not_empty (x ∷ s) n e = cc

-- the tokens of the container, and the last
pub to_last : (t : Tokens) (last : ℕ) (token : List ℕ) → last + 1 ≡ length t → slice_get t last ≡ Some token → t ≡ take last t ++ token ∷ []
to_last t last token is here =
    let rest : drop last t ≡ token ∷ drop (last + 1) t = drop_more t last [] (slice_get_within t last token here) ∙ ap (λ x. x ∷ drop (last + 1) t) (get_or_from_slice_get t last token [] here) in
    let over : drop (last + 1) t ≡ [] = ap (λ n. drop n t) is ∙ drop_whole t in
    sym (take-append-drop last t) ∙ ap (λ ys. take last t ++ ys) (rest ∙ ap (λ xs. token ∷ xs) over)
  where
    drop_whole : (xs : Tokens) → drop (length xs) xs ≡ []
    drop_whole [] = refl
    drop_whole (x ∷ xs) = drop_whole xs

pub to_end : (t : Tokens) → take (length t) t ≡ t
to_end t = take_all (length t) t (omega arith)

-- ---- one token

-- what `!=` of two texts answers
pub texts_differ : (xs ys : List ℕ) (r : Bool) → r ≡ not (bytes_eq xs ys) → (r ≡ false → xs ≡ ys) × (r ≡ true → xs ≢ ys)
texts_differ xs ys r is = (λ e. (bytes_eq-Decides xs ys).0 (equal (bytes_eq xs ys) (sym is ∙ e)), λ e same. unequal (bytes_eq xs ys) (sym is ∙ e) ((bytes_eq-Decides xs ys).1 same))
  where
    equal : (b : Bool) → not b ≡ false → b ≡ true
    equal true e = refl
    equal false e = absurd (true≢false e)

    unequal : (b : Bool) → not b ≡ true → b ≡ true → ⊥
    unequal true e f = true≢false (sym e)
    unequal false e f = true≢false (sym f)
