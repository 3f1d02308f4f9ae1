-- The text of pairs that conflict, one more pair at a time.
use Rattle.std.proofs.Common.{◌≡◌, ◌≢◌, ◌<◌, ◌≤◌, ◌+◌, ◌-◌, ◌⊎◌, ◌↔◌, inl, inr, ℕ, zero, suc, ◌==◌, MatchOption, Option, None, Some, Bool, true, false, true≢false, IsTrue, List, [], ◌∷◌, ◌++◌, codes, drop, get_or, length, map, take, refl, sym, ap, ◌∙◌, subst, arith, append_assoc, append-nil, length-append}
use Rattle.std.proofs.lemmas.Bool.{cases_lt}
use Rattle.std.proofs.lemmas.List.{drop_all, drop_more, length-map, length-take, map-append, take-append-drop, take_more}
use Rattle.serde_json.specs.Written.{items_text}
use Rattle.mp_tree.specs.Look.{Path}
use Rattle.mp_tree.specs.Elements.{items_of}
use Rattle.mp_tree.specs.Text.{text as compact, items_data}
use Rattle.mp_texts.specs.Answers.{place_of}
use Rattle.mp_texts.specs.PlacesTexts.{listed}
use Rattle.mp_replica.specs.LogTexts.{IsTextOfFirstPairs, more_pairs_text, pair_text, pairs_text}
use Rattle.mp_replica.specs.PatchLog.{Pair, seen}
use Rattle.mp_replica.specs.declared.pairs.ConflictingPair.{ConflictingPair}

-- what stands before the next pair
abbrev pub comma_before : List Pair → List ℕ
comma_before [] = codes "["
comma_before (pair ∷ pairs) = codes ","

-- the array without its end; nothing yet if there is no pair
abbrev pub opened : List Pair → List ℕ
opened [] = []
opened (pair ∷ pairs) = codes "[" ++ pair_text pair ++ more_pairs_text pairs

-- one more, after what there is
four : (a m c q : List ℕ) → a ++ (m ++ c ++ q) ≡ a ++ m ++ c ++ q
four a m c q = sym (append_assoc a (m ++ c) q) ∙ ap (λ t. t ++ q) (sym (append_assoc a m c))

more-push : (pairs : List Pair) (pair : Pair) → more_pairs_text (pairs ++ pair ∷ []) ≡ more_pairs_text pairs ++ codes "," ++ pair_text pair
more-push [] pair = append-nil (codes "," ++ pair_text pair)
more-push (p ∷ pairs) pair = ap (λ t. codes "," ++ pair_text p ++ t) (more-push pairs pair) ∙ four (codes "," ++ pair_text p) (more_pairs_text pairs) (codes ",") (pair_text pair)

pub opened-push : (pairs : List Pair) (pair : Pair) → opened (pairs ++ pair ∷ []) ≡ opened pairs ++ comma_before pairs ++ pair_text pair
opened-push [] pair = append-nil (codes "[" ++ pair_text pair)
opened-push (p ∷ pairs) pair = ap (λ t. codes "[" ++ pair_text p ++ t) (more-push pairs pair) ∙ four (codes "[" ++ pair_text p) (more_pairs_text pairs) (codes ",") (pair_text pair)

pub comma-push : (pairs : List Pair) (pair : Pair) → comma_before (pairs ++ pair ∷ []) ≡ codes ","
comma-push [] pair = refl
comma-push (p ∷ pairs) pair = refl

-- ---- how long it is, and that of as many as fit

-- of each text, with one byte more for what stands before it
abbrev pub spelled_by : {X : Type 0} → (X → List ℕ) → List X → ℕ
spelled_by text [] = 0
spelled_by text (x ∷ xs) = 1 + length (text x) + spelled_by text xs

spelled_by-append : {X : Type 0} (text : X → List ℕ) (xs ys : List X) → spelled_by text (xs ++ ys) ≡ spelled_by text xs + spelled_by text ys
spelled_by-append text [] ys = omega arith
spelled_by-append text (x ∷ xs) ys = omega (arith, spelled_by-append text xs ys)

abbrev pub spelled : List Pair → ℕ
spelled = spelled_by pair_text

more_long : (pairs : List Pair) → length (more_pairs_text pairs) ≡ spelled pairs
more_long [] = refl
more_long (pair ∷ pairs) = omega (arith, length-append (codes "," ++ pair_text pair) (more_pairs_text pairs), length-append (codes ",") (pair_text pair), more_long pairs)

pub pairs_long : (pair : Pair) (pairs : List Pair) → length (pairs_text (pair ∷ pairs)) ≡ 1 + spelled (pair ∷ pairs)
pairs_long pair pairs =
    omega (arith, length-append (codes "[" ++ pair_text pair ++ more_pairs_text pairs) (codes "]"), length-append (codes "[" ++ pair_text pair) (more_pairs_text pairs), length-append (codes "[") (pair_text pair), more_long pairs)

pub spelled-append : (pairs others : List Pair) → spelled (pairs ++ others) ≡ spelled pairs + spelled others
spelled-append = spelled_by-append pair_text

pub fit_or_none : (pairs : List Pair) (limit left : ℕ) → left + spelled pairs ≡ limit - 1 → (pairs ≡ []) ⊎ (length (pairs_text pairs) ≤ limit)
fit_or_none [] limit left is = inl refl
fit_or_none (pair ∷ pairs) limit left is = inr (omega (arith, is, pairs_long pair pairs))

pub long-push : (pairs : List Pair) (pair : Pair) → length (pairs_text (pairs ++ pair ∷ [])) ≡ 1 + (spelled pairs + (1 + length (pair_text pair)))
long-push [] pair = omega (arith, pairs_long pair [])
long-push (p ∷ pairs) pair = omega (arith, pairs_long p (pairs ++ pair ∷ []), spelled-append pairs (pair ∷ []))

-- ---- how long the text of places is

abbrev pub places_spelled : List Path → ℕ
places_spelled = spelled_by (λ place. compact (place_of place))

spelled_after : (places : List Path) → length (items_text true (items_data (items_of (map place_of places)))) ≡ places_spelled places + 1
spelled_after [] = refl
spelled_after (w ∷ places) = omega (arith, spelled_after places, length-append (compact (place_of w)) (items_text true (items_data (items_of (map place_of places)))))

pub listed_of_some : (places : List Path) {empty : Bool} → empty ≡ (length places == 0) → empty ≡ false → listed places ≡ 1 + places_spelled places
listed_of_some [] is none = absurd (true≢false (sym is ∙ none))
listed_of_some (w ∷ places) is none = omega (arith, spelled_after places, length-append (compact (place_of w)) (items_text true (items_data (items_of (map place_of places)))))

pub next_spelled : (places : List Path) (k : ℕ) (d : Path) → k < length places → places_spelled (take k places) + (1 + length (compact (place_of (get_or places k d)))) ≤ places_spelled places
next_spelled [] k d below = absurd (omega (arith, below))
next_spelled (w ∷ places) zero d below = omega arith
next_spelled (w ∷ places) (suc k) d below = let rest = next_spelled places k d (omega arith) in omega (arith, rest)

pub spelled_passed : (places : List Path) (k : ℕ) (d : Path) → k < length places → places_spelled (take (k + 1) places) ≡ places_spelled (take k places) + (1 + length (compact (place_of (get_or places k d))))
spelled_passed places k d below =
    omega (arith, ap places_spelled (take_more places k d below), spelled_by-append (λ place. compact (place_of place)) (take k places) (get_or places k d ∷ []))

-- ---- what an answer says

pub none_of_two : {P : Type 0} (Q : ℕ → Type 0) {o : Option ℕ} → ((x : ℕ) → o ≡ Some x → ⊥) → MatchOption o P Q → P
none_of_two Q {o = None} never is = is
none_of_two Q {o = Some x} never is = absurd (never x refl)

pub some_of_two : (P : Type 0) (Q : ℕ → Type 0) {o : Option ℕ} (x : ℕ) → o ≡ Some x → MatchOption o P Q → Q x
some_of_two P Q x is = subst (λ o. MatchOption o P Q) is

-- one pair more
pub seen_more : (pairs : List ConflictingPair) (k : ℕ) (pair : ConflictingPair) → k < length pairs → pair ≡ get_or pairs k pair → map seen (take (k + 1) pairs) ≡ map seen (take k pairs) ++ seen pair ∷ []
seen_more pairs k pair within is = ap (map seen) (take_more pairs k pair within ∙ ap (λ x. take k pairs ++ x ∷ []) (sym is)) ∙ map-append seen (take k pairs) (pair ∷ [])

module _ (limit n : ℕ) (pairs : List ConflictingPair) (longest : n < length pairs → limit < length (pairs_text (map seen (take (n + 1) pairs)))) where
  abbrev pub written : List Pair
  written = map seen (take n pairs)

  abbrev left : List ConflictingPair
  left = drop n pairs

  some_left : map seen left ≢ [] → n < length pairs
  some_left some = elim (cases_lt n (length pairs)) [ inl below ↦ below | inr past ↦ absurd (some (ap (map seen) (drop_all n pairs (omega arith)))) ]

  none_short : n < length pairs → map seen left ≢ []
  none_short below none = omega (arith, below, ap length none, length-map left seen, ap length (take-append-drop n pairs), length-append (take n pairs) left, length-take n pairs)

  next_of : (next : Pair) (others : List Pair) → map seen left ≡ next ∷ others → limit < length (pairs_text (written ++ next ∷ []))
  next_of next others is =
      let below = some_left (λ none. let differ = sym none ∙ is in cc) in
      by left refl below
    where
      by : (rest : List ConflictingPair) → left ≡ rest → n < length pairs → limit < length (pairs_text (written ++ next ∷ []))
      by [] none below = absurd (let differ : [] ≡ next ∷ others = sym (ap (map seen) none) ∙ is in cc)
      by (d ∷ rest) parts below =
          let here : get_or pairs n d ∷ drop (n + 1) pairs ≡ d ∷ rest = sym (drop_more pairs n d below) ∙ parts in
          let first : seen (get_or pairs n d) ≡ next = (let same : get_or pairs n d ≡ d = cc in let both : seen d ∷ map seen rest ≡ next ∷ others = sym (ap (map seen) parts) ∙ is in let head : seen d ≡ next = cc in ap seen same ∙ head) in
          let more : map seen (take (n + 1) pairs) ≡ written ++ next ∷ [] = ap (map seen) (take_more pairs n d below) ∙ map-append seen (take n pairs) (get_or pairs n d ∷ []) ∙ ap (λ p. written ++ p ∷ []) first in
          subst (λ ps. limit < length (pairs_text ps)) more (longest below)

  pub first_text : (answer : List ℕ) (more : Bool) → (written ≡ []) ⊎ (length (pairs_text written) ≤ limit) → answer ≡ pairs_text written → IsTrue more ↔ (n < length pairs) → IsTextOfFirstPairs limit (map seen pairs) answer more
  first_text answer more within is says = record {
    written = written;
    rest = map seen left;
    all = ap (map seen) (sym (take-append-drop n pairs)) ∙ map-append seen (take n pairs) left;
    is = is;
    within = elim within [ inl none ↦ inl none | inr fits ↦ inr (omega (arith, fits, ap length is)) ];
    longest = next_of;
    left_out = (λ yes. none_short (says.0 yes), λ some. says.1 (some_left some));
  }

-- all are written if they fit
pub whole_text : (limit : ℕ) (pairs : List Pair) (answer : List ℕ) → answer ≡ pairs_text pairs → length answer ≤ limit → IsTextOfFirstPairs limit pairs answer false
whole_text limit pairs answer is within = record {
  written = pairs;
  rest = [];
  all = sym (append-nil pairs);
  is = is;
  within = inr within;
  longest = λ next others none. let differ = none in absurd (cc);
  left_out = (λ more. absurd (true≢false (sym more)), λ some. absurd (some refl));
}
