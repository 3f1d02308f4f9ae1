-- How long the text of places is, and that of as many as fit.
use Rattle.std.proofs.Common.{◌≡◌, ◌<◌, ◌≤◌, ◌+◌, ◌⊎◌, ◌∷◌, ◌++◌, [], ℕ, zero, suc, List, map, length, take, drop, inl, inr, Bool, true, false, nat_lt, nat_eq, get_or, refl, sym, ap, ◌∙◌, subst, arith, length-append}
use Rattle.std.proofs.Math.Decide.{dec_le}
use Rattle.std.proofs.Math.Nat.{lt_of_not-le}
use Rattle.std.proofs.lemmas.Bool.{eqb-true, eqb-false, ltb-true, ltb-false}
use Rattle.std.proofs.lemmas.List.{take-append-drop, take_more, drop_all, drop_more}
use Rattle.serde_json.specs.Written.{items_text}
use Rattle.mp_tree.specs.Elements.{items_of}
use Rattle.mp_tree.specs.Text.{text as compact, items_data}
use Rattle.mp_pointer.specs.Spelling.{Tokens}
use Rattle.mp_texts.specs.Answers.{place_of}
use Rattle.mp_patch.specs.Work.{no_limit}
use Rattle.mp_texts.specs.Laws.{SomeAreShown, TheseAreShown}
use Rattle.mp_texts.specs.PlacesTexts.{AreShown, IsLongestWithin, listed}

-- of each place, with one byte more for what stands before it
abbrev pub spelled : List Tokens → ℕ
spelled [] = 0
spelled (w ∷ ws) = 1 + length (compact (place_of w)) + spelled ws

spelled_after : (ws : List Tokens) → length (items_text true (items_data (items_of (map place_of ws)))) ≡ spelled ws + 1
spelled_after [] = refl
spelled_after (w ∷ ws) = omega (arith, spelled_after ws, length-append (compact (place_of w)) (items_text true (items_data (items_of (map place_of ws)))))

pub listed_some : (w : Tokens) (ws : List Tokens) → listed (w ∷ ws) ≡ 1 + spelled (w ∷ ws)
listed_some w ws = omega (arith, spelled_after ws, length-append (compact (place_of w)) (items_text true (items_data (items_of (map place_of ws)))))

-- of none it is one more
pub listed_within : (ws : List Tokens) (limit : ℕ) → 2 ≤ limit → 1 + spelled ws ≤ limit → listed ws ≤ limit
listed_within [] limit two within = two
listed_within (w ∷ ws) limit two within = omega (arith, listed_some w ws, within)

pub spelled-append : (ws us : List Tokens) → spelled (ws ++ us) ≡ spelled ws + spelled us
spelled-append [] us = omega arith
spelled-append (w ∷ ws) us = omega (arith, spelled-append ws us)

pub listed-push : (ws : List Tokens) (w : Tokens) → listed (ws ++ w ∷ []) ≡ 1 + (spelled ws + (1 + length (compact (place_of w))))
listed-push [] w = omega (arith, listed_some w [])
listed-push (v ∷ ws) w = omega (arith, listed_some v (ws ++ w ∷ []), spelled-append ws (w ∷ []))

-- ---- one front, as long as fits

-- us goes on after ws, as the rest of the list after ws does
record GoesOn (ws us rest : List Tokens) : Type 0 where
  next : Tokens
  more : List Tokens
  later : List Tokens
  rest_is : rest ≡ next ∷ more
  us_is : us ≡ ws ++ next ∷ later

-- two fronts of one list are one, or one goes on after the other
fronts : (ws us rest others : List Tokens) → ws ++ rest ≡ us ++ others → (ws ≡ us) ⊎ (GoesOn ws us rest ⊎ GoesOn us ws others)
fronts [] [] rest others same = inl refl
fronts [] (u ∷ us) rest others same = inr (inl (record { next = u; more = us ++ others; later = us; rest_is = same; us_is = refl }))
fronts (w ∷ ws) [] rest others same = inr (inr (record { next = w; more = ws ++ rest; later = ws; rest_is = sym same; us_is = refl }))
fronts (w ∷ ws) (u ∷ us) rest others same =
    let first : w ≡ u = cc in
    let after : ws ++ rest ≡ us ++ others = cc in
    elim (fronts ws us rest others after) [
      | inl one ↦ inl (subst (λ x. w ∷ ws ≡ x ∷ us) first (ap (λ xs. w ∷ xs) one))
      | inr (inl g) ↦ inr (inl (record { next = g.next; more = g.more; later = g.later; rest_is = g.rest_is; us_is = subst (λ x. x ∷ us ≡ w ∷ (ws ++ g.next ∷ g.later)) first (ap (λ xs. w ∷ xs) g.us_is) }))
      | inr (inr g) ↦ inr (inr (record { next = g.next; more = g.more; later = g.later; rest_is = g.rest_is; us_is = subst (λ x. w ∷ ws ≡ x ∷ (us ++ g.next ∷ g.later)) first (ap (λ xs. w ∷ xs) g.us_is) }))
    ]

-- what goes on after the longest that fits does not fit
too_long : (limit : ℕ) (ws us rest : List Tokens) → GoesOn ws us rest → listed us ≤ limit → (rest ≡ []) ⊎ ((next : Tokens) × (more : List Tokens) × (rest ≡ next ∷ more) × (limit < listed (ws ++ next ∷ []))) → ⊥
too_long limit ws us rest g within (inl none) = absurd (cc)
too_long limit ws us rest g within (inr (next, more, is, over)) =
    let same : next ≡ g.next = cc in
    let longer : listed us ≡ listed (ws ++ g.next ∷ g.later) = ap listed g.us_is in
    let whole = ap (λ v. listed (ws ++ v ∷ [])) same in
    omega (arith, over, within, longer, whole, listed-push ws g.next, listed-more ws g.next g.later)
  where
    listed-more : (ws : List Tokens) (v : Tokens) (more : List Tokens) → 1 + (spelled ws + (1 + length (compact (place_of v)))) ≤ listed (ws ++ v ∷ more)
    listed-more [] v more = omega (arith, listed_some v more)
    listed-more (w ∷ ws) v more = omega (arith, listed_some w (ws ++ v ∷ more), spelled-append ws (v ∷ more))

-- what has a place that goes on fits the limit by its length
long : (limit : ℕ) (ws us : List Tokens) (v : Tokens) (more : List Tokens) → us ≡ ws ++ v ∷ more → (us ≡ []) ⊎ (listed us ≤ limit) → listed us ≤ limit
long limit ws us v more is (inr within) = within
long limit [] us v more is (inl none) = absurd (cc)
long limit (w ∷ ws) us v more is (inl none) = absurd (cc)

one_longest : (limit : ℕ) (places ws us : List Tokens) → IsLongestWithin limit places ws → IsLongestWithin limit places us → ws ≡ us
one_longest limit places ws us one other = elim (fronts ws us one.rest other.rest (sym one.all ∙ other.all)) [
  | inl same ↦ same
  | inr (inl g) ↦ absurd (too_long limit ws us one.rest g (long limit ws us g.next g.later g.us_is other.within) one.longest)
  | inr (inr g) ↦ absurd (too_long limit us ws other.rest g (long limit us ws g.next g.later g.us_is one.within) other.longest)
]

pub these_are_shown : TheseAreShown
these_are_shown limit places ws us (inl one) (inl other) = one.1 ∙ sym other.1
these_are_shown limit places ws us (inl one) (inr other) = absurd (other.0 one.0)
these_are_shown limit places ws us (inr one) (inl other) = absurd (one.0 other.0)
these_are_shown limit places ws us (inr one) (inr other) = one_longest limit places ws us one.1 other.1

-- ---- of as many as were counted

-- as many of the first places as fit, if so many fit
pub record Longest (limit : ℕ) (places : List Tokens) : Type 0 where
  pub count : ℕ
  pub within : (take count places ≡ []) ⊎ (listed (take count places) ≤ limit)
  pub longest : count < length places → limit < listed (take (count + 1) places)

pub first_longest : (limit : ℕ) (places : List Tokens) (most : Longest limit places) → IsLongestWithin limit places (take most.count places)
first_longest limit places most = record {
  rest = drop n places;
  all = sym (take-append-drop n places);
  within = most.within;
  longest = by (nat_lt n (length places)) refl;
}
  where
    n : ℕ
    n = most.count

    by : (b : Bool) → nat_lt n (length places) ≡ b → (drop n places ≡ []) ⊎ ((next : Tokens) × (more : List Tokens) × (drop n places ≡ next ∷ more) × (limit < listed (take n places ++ next ∷ [])))
    by true less =
        let within = ltb-true n (length places) less in
        inr (get_or places n [], drop (n + 1) places, drop_more places n [] within, subst (λ ws. limit < listed ws) (take_more places n [] within) (most.longest within))
    by false more = inl (drop_all n places (ltb-false n (length places) more))

-- not even an array of none fits
first_over : (limit : ℕ) (places : List Tokens) → limit < 2 → 0 < length places → limit < listed (take 1 places)
first_over limit [] small less = absurd (omega arith)
first_over limit (w ∷ ws) small less = omega (arith, small, listed_some w [])

pub none_longest : (limit : ℕ) (places : List Tokens) → limit < 2 → IsLongestWithin limit places []
none_longest limit places small = first_longest limit places (record { count = 0; within = inl refl; longest = first_over limit places small })

-- ---- there is one

grow : (limit : ℕ) (places : List Tokens) (left k : ℕ) → length places ≤ k + left → listed (take k places) ≤ limit → Longest limit places
grow limit places zero k all within = record { count = k; within = inr within; longest = λ less. absurd (omega (arith, all, less)) }
grow limit places (suc left) k all within = elim (dec_le (listed (take (k + 1) places)) limit) [
  | yes fits ↦ grow limit places left (k + 1) (omega (arith, all)) fits
  | no over ↦ record { count = k; within = inr within; longest = λ less. lt_of_not-le over }
]

most_within : (limit : ℕ) (places : List Tokens) → Longest limit places
most_within limit places = elim (dec_le 2 limit) [
  | yes two ↦ grow limit places (length places) 0 (omega arith) two
  | no small ↦ record { count = 0; within = inl refl; longest = first_over limit places (lt_of_not-le small) }
]

pub some_are_shown : SomeAreShown
some_are_shown limit places = by (nat_eq limit no_limit) refl
  where
    by : (b : Bool) → nat_eq limit no_limit ≡ b → (shown : List Tokens) × AreShown limit places shown
    by true is = (places, inl (eqb-true limit no_limit is, refl))
    by false not =
        let most = most_within limit places in
        (take most.count places, inr (eqb-false limit no_limit not, first_longest limit places most))
