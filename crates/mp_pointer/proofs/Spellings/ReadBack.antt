-- Spellings: a list of tokens is read back from its spelling, and each text that is read is a spelling.
use Rattle.std.proofs.Common.{◌≡◌, ◌≢◌, ◌⊎◌, inl, inr, ℕ, zero, suc, ◌+◌, ◌<◌, List, [], ◌∷◌, ◌++◌, length, get_or, map, Bool, true, false, cond, eqb, Option, None, Some, option_map, Result, Ok, Err, refl, sym, ap, ap₂, ◌∙◌, subst, arith, append_assoc, append-nil, ne_eqb, eqb-true, eq-eqb, true≢false}
use Rattle.std.proofs.lemmas.List.Concat.{flat_map-append}
use Rattle.std.proofs.lemmas.Bool.Decides.{nat_tests}
use Rattle.mp_pointer.specs.Bytes.{slash, tilde, digit_zero, digit_one}
use Rattle.mp_pointer.specs.Laws.{HasOnePointerFault, HasOneSpelling, SpellingsHaveNoFault, SpellsOrIsFaulty}
use Rattle.mp_pointer.specs.Private.BadTilde.{starts_badly, first_bad_tilde}
use Rattle.mp_pointer.specs.Spelling.{Tokens, escaped_byte, escape, spell, LacksSlash, IsBadTilde, IsFirstBadTilde, IsPointerFault}
use Rattle.mp_pointer.proofs.Spellings.Parser.{unescape, on_first, parts_of, unless_bad, tokens_in}
use Rattle.mp_pointer.specs.declared.fault.PointerFault.{PointerFault}
use Rattle.mp_pointer.specs.declared.fault.PointerFault.TheVariants.{NoSlash, BadTilde, OutOfMemory}

-- ---- bytes that are written as they are

abbrev pub Lacks : ℕ → List ℕ → Type 0
Lacks c xs = (i : ℕ) → i < length xs → get_or xs i 0 ≢ c

pub Lacks-front : (c : ℕ) (xs ys : List ℕ) → Lacks c (xs ++ ys) → Lacks c xs
Lacks-front c [] ys lacks i less = absurd (omega arith)
Lacks-front c (x ∷ xs) ys lacks zero less = lacks 0 (omega arith)
Lacks-front c (x ∷ xs) ys lacks (suc i) less = Lacks-front c xs ys (λ k below. lacks (suc k) (omega arith)) i (omega arith)

Lacks-back : (c : ℕ) (xs ys : List ℕ) → Lacks c (xs ++ ys) → Lacks c ys
Lacks-back c [] ys lacks = lacks
Lacks-back c (x ∷ xs) ys lacks = Lacks-back c xs ys (λ k below. lacks (suc k) (omega arith))

pub Lacks-after : (c y : ℕ) (xs ys : List ℕ) → Lacks c (xs ++ y ∷ ys) → Lacks c ys
Lacks-after c y xs ys lacks = λ k below. Lacks-back c xs (y ∷ ys) lacks (suc k) (omega arith)

-- a byte is `~`, `/` or another
cases_byte : (P : ℕ → Type 0) (c : ℕ) → P tilde → P slash → (c ≢ tilde → c ≢ slash → P c) → P c
cases_byte P c at_tilde at_slash other = split (eqb c tilde) (eqb c slash) refl refl
  where
    split : (a b : Bool) → eqb c tilde ≡ a → eqb c slash ≡ b → P c
    split true b is_tilde e = subst P (sym (eqb-true c tilde is_tilde)) at_tilde
    split false true e is_slash = subst P (sym (eqb-true c slash is_slash)) at_slash
    split false false no_tilde no_slash = other (grind (arith, nat_tests)) (grind (arith, nat_tests))

escaped_byte-plain : (c : ℕ) → c ≢ tilde → c ≢ slash → escaped_byte c ≡ c ∷ []
escaped_byte-plain c no_tilde no_slash = rw (ne_eqb c tilde no_tilde, ne_eqb c slash no_slash)

pub escape-plain : (xs : List ℕ) → Lacks slash xs → Lacks tilde xs → escape xs ≡ xs
escape-plain [] no_slash no_tilde = refl
escape-plain (x ∷ xs) no_slash no_tilde =
    ap₂ (λ a b. a ++ b) (escaped_byte-plain x (no_tilde 0 (omega arith)) (no_slash 0 (omega arith)))
    (escape-plain xs (λ i less. no_slash (suc i) (omega arith)) (λ i less. no_tilde (suc i) (omega arith)))

-- ---- one step of writing and of reading

-- a part is written, and then the escape of the byte after it
pub escape_step : (c : ℕ) (now before plain rest more all : List ℕ) → now ≡ (before ++ escape plain) ++ escaped_byte c → rest ≡ plain ++ c ∷ more → before ++ escape rest ≡ all → now ++ escape more ≡ all
escape_step c now before plain rest more all now_is rest_is so_far =
    ap (λ xs. xs ++ escape more) now_is ∙ append_assoc (before ++ escape plain) (escaped_byte c) (escape more) ∙ append_assoc before (escape plain) (escaped_byte c ++ escape more)
    ∙ ap (λ xs. before ++ xs) (sym (ap escape rest_is ∙ flat_map-append escaped_byte plain (c ∷ more))) ∙ so_far

-- a part is taken as it is, and then the byte that the escape after it stands for
pub unescape_step : (c d : ℕ) (now before plain rest more all : List ℕ) → escaped_byte c ≡ tilde ∷ d ∷ [] → now ≡ (before ++ plain) ++ c ∷ [] → rest ≡ plain ++ tilde ∷ d ∷ more → Lacks slash plain → Lacks tilde plain → escape before ++ rest ≡ all
    → escape now ++ more ≡ all
unescape_step c d now before plain rest more all written now_is rest_is no_slash no_tilde so_far =
    let front : escape (before ++ plain) ≡ escape before ++ plain = flat_map-append escaped_byte before plain ∙ ap (λ xs. escape before ++ xs) (escape-plain plain no_slash no_tilde) in
    let whole : escape now ≡ (escape before ++ plain) ++ tilde ∷ d ∷ [] = ap escape now_is ∙ flat_map-append escaped_byte (before ++ plain) (c ∷ []) ∙ ap₂ (λ a b. a ++ (b ++ [])) front written in
    ap (λ xs. xs ++ more) whole ∙ append_assoc (escape before ++ plain) (tilde ∷ d ∷ []) more ∙ append_assoc (escape before) plain (tilde ∷ d ∷ more) ∙ ap (λ xs. escape before ++ xs) (sym rest_is) ∙ so_far

-- one more token
pub spell-push : (before : Tokens) (token part : List ℕ) → escape token ≡ part → spell (before ++ token ∷ []) ≡ spell before ++ slash ∷ part
spell-push before token part is = flat_map-append (λ t. slash ∷ escape t) before (token ∷ []) ∙ ap (λ xs. spell before ++ slash ∷ xs) (append-nil (escape token) ∙ is)

-- ---- a `~` that no `0` and no `1` follows

none_from_suc : (o : Option ℕ) → option_map suc o ≡ None → o ≡ None
none_from_suc None e = refl
none_from_suc (Some x) e = cc

none_parts : (b : Bool) (o : Option ℕ) → cond b (Some 0) (option_map suc o) ≡ None → (b ≡ false) × (o ≡ None)
none_parts true o e = cc
none_parts false o e = (refl, none_from_suc o e)

first_bad-cons : (c : ℕ) (rest : List ℕ) → first_bad_tilde (c ∷ rest) ≡ None → (starts_badly c rest ≡ false) × (first_bad_tilde rest ≡ None)
first_bad-cons c rest none = none_parts (starts_badly c rest) (first_bad_tilde rest) none

pub first_bad-back : (xs ys : List ℕ) → first_bad_tilde (xs ++ ys) ≡ None → first_bad_tilde ys ≡ None
first_bad-back [] ys none = none
first_bad-back (x ∷ xs) ys none = first_bad-back xs ys ((first_bad-cons x (xs ++ ys) none).1)

pub first_bad-after : (xs : List ℕ) (y : ℕ) (ys : List ℕ) → first_bad_tilde (xs ++ y ∷ ys) ≡ None → first_bad_tilde ys ≡ None
first_bad-after xs y ys none = (first_bad-cons y ys (first_bad-back xs (y ∷ ys) none)).1

-- a `/` escapes nothing
pub first_bad-front : (xs ys : List ℕ) → first_bad_tilde (xs ++ slash ∷ ys) ≡ None → first_bad_tilde xs ≡ None
first_bad-front [] ys none = refl
first_bad-front (c ∷ []) ys none = let p = first_bad-cons c (slash ∷ ys) none in rw (p.0)
first_bad-front (c ∷ d ∷ xs) ys none =
    let p = first_bad-cons c (d ∷ (xs ++ slash ∷ ys)) none in
    let good : starts_badly c (d ∷ xs) ≡ false = p.0 in
    rw good (ap (option_map suc) (first_bad-front (d ∷ xs) ys p.1))

-- what follows a `~`
pub escape_follows : (plain after : List ℕ) → first_bad_tilde (plain ++ tilde ∷ after) ≡ None → ((more : List ℕ) → after ≢ digit_zero ∷ more) → ((more : List ℕ) → after ≢ digit_one ∷ more) → ⊥
escape_follows plain after none not_zero not_one = follows after ((first_bad-cons tilde after (first_bad-back plain (tilde ∷ after) none)).0) not_zero not_one
  where
    follows : (after : List ℕ) → starts_badly tilde after ≡ false → ((more : List ℕ) → after ≢ digit_zero ∷ more) → ((more : List ℕ) → after ≢ digit_one ∷ more) → ⊥
    follows [] good not_zero not_one = cc
    follows (d ∷ more) good not_zero not_one =
        let no_zero : d ≢ digit_zero = λ e. not_zero more (ap (λ x. x ∷ more) e) in
        let no_one : d ≢ digit_one = λ e. not_one more (ap (λ x. x ∷ more) e) in
        grind (arith, nat_tests)

bad_from_test : (c : ℕ) (rest : List ℕ) → starts_badly c rest ≡ true → IsBadTilde (c ∷ rest) 0
bad_from_test c [] e = (grind (arith, nat_tests), λ x. omega arith, λ x. omega arith)
bad_from_test c (d ∷ rest) e = (grind (arith, nat_tests), λ x. grind (arith, nat_tests), λ x. grind (arith, nat_tests))

test_from_bad : (c : ℕ) (rest : List ℕ) → IsBadTilde (c ∷ rest) 0 → starts_badly c rest ≡ true
test_from_bad c [] bad = grind (arith, nat_tests)
test_from_bad c (d ∷ rest) bad = grind (arith, nat_tests)

bad-tail : (c : ℕ) (rest : List ℕ) (n : ℕ) → IsBadTilde (c ∷ rest) (suc n) → IsBadTilde rest n
bad-tail c rest n bad = let e : suc n + 1 ≡ suc (n + 1) = omega arith in rw e at bad

bad-cons : (c : ℕ) (rest : List ℕ) (n : ℕ) → IsBadTilde rest n → IsBadTilde (c ∷ rest) (suc n)
bad-cons c rest n bad = let e : suc n + 1 ≡ suc (n + 1) = omega arith in rw e bad

good_from : (c : ℕ) (rest : List ℕ) → ¬ IsBadTilde (c ∷ rest) 0 → starts_badly c rest ≡ false
good_from c rest good = split (starts_badly c rest) refl
  where
    split : (b : Bool) → starts_badly c rest ≡ b → b ≡ false
    split true e = absurd (good (bad_from_test c rest e))
    split false e = refl

pub first_bad-none : (text : List ℕ) → ((k : ℕ) → ¬ IsBadTilde text k) → first_bad_tilde text ≡ None
first_bad-none [] good = refl
first_bad-none (c ∷ rest) good = rw (good_from c rest (good 0)) (ap (option_map suc) (first_bad-none rest (λ k bad. good (suc k) (bad-cons c rest k bad))))

first_bad-some : (text : List ℕ) (n : ℕ) → IsFirstBadTilde text n → first_bad_tilde text ≡ Some n
first_bad-some [] n first = absurd (omega (arith, first.here.0))
first_bad-some (c ∷ rest) zero first = rw (test_from_bad c rest first.here)
first_bad-some (c ∷ rest) (suc n) first =
    rw (good_from c rest (first.before 0 (omega arith)))
    (ap (option_map suc) (first_bad-some rest n (record { here = bad-tail c rest n first.here; before = λ k below bad. first.before (suc k) (omega arith) (bad-cons c rest k bad) })))

-- a first bad tilde after a byte that is not one
first_bad-later : (c : ℕ) (rest : List ℕ) (n : ℕ) → starts_badly c rest ≡ false → IsFirstBadTilde rest n → IsFirstBadTilde (c ∷ rest) (suc n)
first_bad-later c rest n good first = record { here = bad-cons c rest n first.here; before = before }
  where
    before : (k : ℕ) → k < suc n → ¬ IsBadTilde (c ∷ rest) k
    before zero below bad = true≢false (sym (test_from_bad c rest bad) ∙ good)
    before (suc k) below bad = first.before k (omega arith) (bad-tail c rest k bad)

first_bad-found : (text : List ℕ) (n : ℕ) → first_bad_tilde text ≡ Some n → IsFirstBadTilde text n
first_bad-found [] n e = cc
first_bad-found (c ∷ rest) n e = split (starts_badly c rest) (first_bad_tilde rest) n refl (λ k is. first_bad-found rest k is) e
  where
    split : (b : Bool) (o : Option ℕ) (n : ℕ) → starts_badly c rest ≡ b → ((k : ℕ) → o ≡ Some k → IsFirstBadTilde rest k) → cond b (Some 0) (option_map suc o) ≡ Some n → IsFirstBadTilde (c ∷ rest) n
    split true o n bad found e =
        let zeroth : 0 ≡ n = cc in
        subst (IsFirstBadTilde (c ∷ rest)) zeroth (record { here = bad_from_test c rest bad; before = λ k below. absurd (omega arith) })
    split false None n good found e = cc
    split false (Some k) n good found e =
        let next : suc k ≡ n = cc in
        subst (IsFirstBadTilde (c ∷ rest)) next (first_bad-later c rest k good (found k refl))

-- ---- a spelling is read back

first_bad-escaped : (c : ℕ) (rest : List ℕ) → first_bad_tilde rest ≡ None → first_bad_tilde (escaped_byte c ++ rest) ≡ None
first_bad-escaped c rest none =
    cases_byte (λ c. first_bad_tilde (escaped_byte c ++ rest) ≡ None) c (rw none) (rw none)
    (λ no_tilde no_slash. rw (escaped_byte-plain c no_tilde no_slash, ne_eqb c tilde no_tilde) (rw none))

first_bad-escape : (token rest : List ℕ) → first_bad_tilde rest ≡ None → first_bad_tilde (escape token ++ rest) ≡ None
first_bad-escape [] rest none = none
first_bad-escape (c ∷ token) rest none = ap first_bad_tilde (append_assoc (escaped_byte c) (escape token) rest) ∙ first_bad-escaped c (escape token ++ rest) (first_bad-escape token rest none)

first_bad-spell : (t : Tokens) → first_bad_tilde (spell t) ≡ None
first_bad-spell [] = refl
first_bad-spell (token ∷ t) = ap (option_map suc) (first_bad-escape token (spell t) (first_bad-spell t))

parts_of-escaped : (c : ℕ) (rest part : List ℕ) (parts : Tokens) → parts_of rest ≡ part ∷ parts → parts_of (escaped_byte c ++ rest) ≡ (escaped_byte c ++ part) ∷ parts
parts_of-escaped c rest part parts is =
    cases_byte (λ c. parts_of (escaped_byte c ++ rest) ≡ (escaped_byte c ++ part) ∷ parts) c (rw is) (rw is)
    (λ no_tilde no_slash. rw (escaped_byte-plain c no_tilde no_slash, ne_eqb c slash no_slash) (rw is))

parts_of-escape : (token rest part : List ℕ) (parts : Tokens) → parts_of rest ≡ part ∷ parts → parts_of (escape token ++ rest) ≡ (escape token ++ part) ∷ parts
parts_of-escape [] rest part parts is = is
parts_of-escape (c ∷ token) rest part parts is =
    ap parts_of (append_assoc (escaped_byte c) (escape token) rest) ∙ parts_of-escaped c (escape token ++ rest) (escape token ++ part) parts (parts_of-escape token rest part parts is)
    ∙ ap (λ xs. xs ∷ parts) (sym (append_assoc (escaped_byte c) (escape token) part))

parts_of-spell : (token : List ℕ) (t : Tokens) → parts_of (escape token ++ spell t) ≡ escape token ∷ map escape t
parts_of-spell token [] = parts_of-escape token [] [] [] refl ∙ ap (λ xs. xs ∷ []) (append-nil (escape token))
parts_of-spell token (next ∷ t) =
    let later : parts_of (spell (next ∷ t)) ≡ [] ∷ escape next ∷ map escape t = ap (λ ps. [] ∷ ps) (parts_of-spell next t) in
    parts_of-escape token (spell (next ∷ t)) [] (escape next ∷ map escape t) later ∙ ap (λ xs. xs ∷ escape next ∷ map escape t) (append-nil (escape token))

unescape-plain : (c : ℕ) (rest : List ℕ) → c ≢ tilde → unescape (c ∷ rest) ≡ c ∷ unescape rest
unescape-plain c [] no_tilde = refl
unescape-plain c (d ∷ rest) no_tilde = rw (ne_eqb c tilde no_tilde)

unescape-escaped : (c : ℕ) (rest : List ℕ) → unescape (escaped_byte c ++ rest) ≡ c ∷ unescape rest
unescape-escaped c rest =
    cases_byte (λ c. unescape (escaped_byte c ++ rest) ≡ c ∷ unescape rest) c refl refl
    (λ no_tilde no_slash. ap (λ xs. unescape (xs ++ rest)) (escaped_byte-plain c no_tilde no_slash) ∙ unescape-plain c rest no_tilde)

unescape-escape : (token : List ℕ) → unescape (escape token) ≡ token
unescape-escape [] = refl
unescape-escape (c ∷ token) = unescape-escaped c (escape token) ∙ ap (λ xs. c ∷ xs) (unescape-escape token)

unescape_all : (t : Tokens) → map unescape (map escape t) ≡ t
unescape_all [] = refl
unescape_all (token ∷ t) = ap₂ (λ a b. a ∷ b) (unescape-escape token) (unescape_all t)

pub tokens_in-spell : (t : Tokens) → tokens_in (spell t) ≡ Ok t
unfolding tokens_in
tokens_in-spell [] = refl
tokens_in-spell (token ∷ t) = ap₂ unless_bad (first_bad-spell (token ∷ t)) (ap (map unescape) (parts_of-spell token t) ∙ unescape_all (token ∷ t))

-- ---- the errors

pub lacks_slash : (text : List ℕ) → text ≢ [] → ((rest : List ℕ) → text ≢ slash ∷ rest) → LacksSlash text
lacks_slash [] some no_slash = absurd (some refl)
lacks_slash (c ∷ rest) some no_slash = (some, λ e. no_slash rest (ap (λ x. x ∷ rest) e))

pub tokens_in-no_slash : (text : List ℕ) → LacksSlash text → tokens_in text ≡ Err NoSlash
unfolding tokens_in
tokens_in-no_slash [] lacks = absurd (lacks.0 refl)
tokens_in-no_slash (c ∷ rest) lacks = rw (ne_eqb c slash lacks.1)

pub tokens_in-bad_tilde : (rest : List ℕ) (offset : ℕ) → IsFirstBadTilde (slash ∷ rest) offset → tokens_in (slash ∷ rest) ≡ Err (BadTilde offset)
unfolding tokens_in
tokens_in-bad_tilde rest offset first = ap (λ o. unless_bad o (map unescape (parts_of rest))) (first_bad-some (slash ∷ rest) offset first)

refused_from_fault : (text : List ℕ) (fault : PointerFault) → fault ≢ OutOfMemory → IsPointerFault fault text → tokens_in text ≡ Err fault
refused_from_fault text NoSlash known holds = tokens_in-no_slash text holds
refused_from_fault [] (BadTilde offset) known holds = absurd (omega (arith, holds.0))
refused_from_fault (c ∷ rest) (BadTilde offset) known holds =
    let whole : c ∷ rest ≡ slash ∷ rest = ap (λ x. x ∷ rest) holds.0 in
    ap tokens_in whole ∙ tokens_in-bad_tilde rest offset (subst (λ xs. IsFirstBadTilde xs offset) whole holds.1)
refused_from_fault text OutOfMemory known holds = absurd (known refl)

fault_from_refused : (text : List ℕ) (fault : PointerFault) → tokens_in text ≡ Err fault → (fault ≢ OutOfMemory) × IsPointerFault fault text
unfolding tokens_in
fault_from_refused [] fault e = cc
fault_from_refused (c ∷ rest) fault e = split (eqb c slash) refl (first_bad_tilde (c ∷ rest)) refl fault e
  where
    split : (b : Bool) → eqb c slash ≡ b → (o : Option ℕ) → first_bad_tilde (c ∷ rest) ≡ o → (fault : PointerFault) → cond b (unless_bad o (map unescape (parts_of rest))) (Err NoSlash) ≡ Err fault → (fault ≢ OutOfMemory) × IsPointerFault fault (c ∷ rest)
    split true is_slash None is fault e = cc
    split true is_slash (Some offset) is fault e =
        let found : BadTilde offset ≡ fault = cc in
        subst (λ f. (f ≢ OutOfMemory) × IsPointerFault f (c ∷ rest)) found ((λ same. cc), (eqb-true c slash is_slash, first_bad-found (c ∷ rest) offset is))
    split false other o is fault e =
        let found : NoSlash ≡ fault = cc in
        subst (λ f. (f ≢ OutOfMemory) × IsPointerFault f (c ∷ rest)) found ((λ same. cc), ((λ none. cc), λ is. true≢false (sym (eq-eqb c slash is) ∙ other)))

-- ---- what is read is a spelling

parts_of-some : (rest : List ℕ) → (part : List ℕ) × (parts : Tokens) × (parts_of rest ≡ part ∷ parts)
parts_of-some [] = ([], [], refl)
parts_of-some (c ∷ rest) = let (part, parts, is) = parts_of-some rest in split (eqb c slash) part parts is
  where
    split : (b : Bool) (part : List ℕ) (parts : Tokens) → parts_of rest ≡ part ∷ parts → (p : List ℕ) × (ps : Tokens) × (cond b ([] ∷ parts_of rest) (on_first c (parts_of rest)) ≡ p ∷ ps)
    split true part parts is = ([], parts_of rest, refl)
    split false part parts is = (c ∷ part, parts, ap (on_first c) is)

abbrev Respells : List ℕ → Type 0
Respells rest = spell (map unescape (parts_of rest)) ≡ slash ∷ rest

-- one more byte that is written as it is
respell-plain : (c : ℕ) (rest : List ℕ) → c ≢ tilde → c ≢ slash → Respells rest → Respells (c ∷ rest)
respell-plain c rest no_tilde no_slash again =
    let (part, parts, is) = parts_of-some rest in
    let later : slash ∷ (escape (unescape part) ++ spell (map unescape parts)) ≡ slash ∷ rest = ap (λ ps. spell (map unescape ps)) (sym is) ∙ again in
    let tail : escape (unescape part) ++ spell (map unescape parts) ≡ rest = cc in
    let first : escape (unescape (c ∷ part)) ≡ c ∷ escape (unescape part) = ap escape (unescape-plain c part no_tilde) ∙ ap (λ xs. xs ++ escape (unescape part)) (escaped_byte-plain c no_tilde no_slash) in
    rw (ne_eqb c slash no_slash, is) (ap (λ xs. slash ∷ (xs ++ spell (map unescape parts))) first ∙ ap (λ xs. slash ∷ c ∷ xs) tail)

-- one more escape
respell-escape : (c d : ℕ) (rest : List ℕ) → escaped_byte c ≡ tilde ∷ d ∷ [] → d ≢ slash → ((part : List ℕ) → unescape (tilde ∷ d ∷ part) ≡ c ∷ unescape part) → Respells rest → Respells (tilde ∷ d ∷ rest)
respell-escape c d rest written no_slash read again =
    let (part, parts, is) = parts_of-some rest in
    let later : slash ∷ (escape (unescape part) ++ spell (map unescape parts)) ≡ slash ∷ rest = ap (λ ps. spell (map unescape ps)) (sym is) ∙ again in
    let tail : escape (unescape part) ++ spell (map unescape parts) ≡ rest = cc in
    let first : escape (unescape (tilde ∷ d ∷ part)) ≡ tilde ∷ d ∷ escape (unescape part) = ap escape (read part) ∙ ap (λ xs. xs ++ escape (unescape part)) written in
    let split : parts_of (tilde ∷ d ∷ rest) ≡ (tilde ∷ d ∷ part) ∷ parts = rw (ne_eqb d slash no_slash, is) in
    ap (λ ps. spell (map unescape ps)) split ∙ ap (λ xs. slash ∷ (xs ++ spell (map unescape parts))) first ∙ ap (λ xs. slash ∷ tilde ∷ d ∷ xs) tail

respell-tilde : (d : ℕ) (rest : List ℕ) → starts_badly tilde (d ∷ rest) ≡ false → Respells rest → Respells (tilde ∷ d ∷ rest)
respell-tilde d rest good again = split (eqb d digit_zero) (eqb d digit_one) refl refl
  where
    split : (a b : Bool) → eqb d digit_zero ≡ a → eqb d digit_one ≡ b → Respells (tilde ∷ d ∷ rest)
    split true b e _ = subst (λ d. Respells (tilde ∷ d ∷ rest)) (sym (eqb-true d digit_zero e)) (respell-escape tilde digit_zero rest refl (λ x. omega arith) (λ part. refl) again)
    split false true _ e = subst (λ d. Respells (tilde ∷ d ∷ rest)) (sym (eqb-true d digit_one e)) (respell-escape slash digit_one rest refl (λ x. omega arith) (λ part. refl) again)
    split false false e f = absurd (grind (arith, nat_tests))

respells : (rest : List ℕ) → first_bad_tilde rest ≡ None → Respells rest
respells [] none = refl
respells (c ∷ []) none =
    cases_byte (λ c. first_bad_tilde (c ∷ []) ≡ None → Respells (c ∷ [])) c (λ bad. cc) (λ _. refl) (λ no_tilde no_slash _. respell-plain c [] no_tilde no_slash refl) none
respells (c ∷ d ∷ rest) none =
    let next = respells (d ∷ rest) ((first_bad-cons c (d ∷ rest) none).1) in
    let after = respells rest ((first_bad-cons d rest ((first_bad-cons c (d ∷ rest) none).1)).1) in
    cases_byte (λ c. starts_badly c (d ∷ rest) ≡ false → Respells (c ∷ d ∷ rest)) c
    (λ good. respell-tilde d rest good after) (λ _. ap (λ xs. slash ∷ xs) next) (λ no_tilde no_slash _. respell-plain c (d ∷ rest) no_tilde no_slash next)
    ((first_bad-cons c (d ∷ rest) none).0)

ok_parts : (o : Option ℕ) (tokens t : Tokens) → unless_bad o tokens ≡ Ok t → (o ≡ None) × (tokens ≡ t)
ok_parts None tokens t e = (refl, cc)
ok_parts (Some offset) tokens t e = cc

spell_from_tokens_in : (text : List ℕ) (t : Tokens) → tokens_in text ≡ Ok t → text ≡ spell t
unfolding tokens_in
spell_from_tokens_in [] t e = let none : [] ≡ t = cc in ap spell none
spell_from_tokens_in (c ∷ rest) t e = split (eqb c slash) refl e
  where
    split : (b : Bool) → eqb c slash ≡ b → cond b (unless_bad (first_bad_tilde (c ∷ rest)) (map unescape (parts_of rest))) (Err NoSlash) ≡ Ok t → c ∷ rest ≡ spell t
    split true is_slash e =
        let p = ok_parts (first_bad_tilde (c ∷ rest)) (map unescape (parts_of rest)) t e in
        ap (λ x. x ∷ rest) (eqb-true c slash is_slash) ∙ sym (respells rest ((first_bad-cons c rest p.0).1)) ∙ ap spell p.1
    split false no_slash e = cc

-- ---- the laws

pub has_one_spelling : HasOneSpelling
has_one_spelling s t e = let both : ◌≡◌ {A = Result Tokens PointerFault} (Ok s) (Ok t) = sym (tokens_in-spell s) ∙ ap tokens_in e ∙ tokens_in-spell t in cc

read_and_refused : (r : Result Tokens PointerFault) (t : Tokens) (fault : PointerFault) → r ≡ Ok t → r ≡ Err fault → ⊥
read_and_refused r t fault read refused = cc

pub spells_or_is_faulty : SpellsOrIsFaulty
spells_or_is_faulty text = by (tokens_in text) refl
  where
    by : (r : Result Tokens PointerFault) → tokens_in text ≡ r → ((t : Tokens) × (text ≡ spell t)) ⊎ ((fault : PointerFault) × (fault ≢ OutOfMemory) × IsPointerFault fault text)
    by (Ok t) is = inl (t, spell_from_tokens_in text t is)
    by (Err fault) is = let (known, holds) = fault_from_refused text fault is in inr (fault, known, holds)

pub spellings_have_no_fault : SpellingsHaveNoFault
spellings_have_no_fault t OutOfMemory holds = refl
spellings_have_no_fault t NoSlash holds = absurd (read_and_refused (tokens_in (spell t)) t NoSlash (tokens_in-spell t) (refused_from_fault (spell t) NoSlash (λ same. cc) holds))
spellings_have_no_fault t (BadTilde offset) holds = absurd (read_and_refused (tokens_in (spell t)) t (BadTilde offset) (tokens_in-spell t) (refused_from_fault (spell t) (BadTilde offset) (λ same. cc) holds))

pub has_one_fault : HasOnePointerFault
has_one_fault text fault other known known_too holds holds_too = same_refusal fault other (sym (refused_from_fault text fault known holds) ∙ refused_from_fault text other known_too holds_too)
  where
    same_refusal : (fault other : PointerFault) → ◌≡◌ {A = Result Tokens PointerFault} (Err fault) (Err other) → fault ≡ other
    same_refusal fault other e = cc
