-- The pairs that come first, as many as a limit allows, one more pair at a time.
use Rattle.std.proofs.Common.{◌≡◌, ◌≢◌, ◌↔◌, ◌⊎◌, ◌<◌, ◌≤◌, ◌+◌, inl, inr, ℕ, Bool, true, false, true≢false, IsTrue, List, [], ◌∷◌, ◌++◌, length, Option, refl, sym, ap, ap₂, ◌∙◌, subst, arith}
use Rattle.std.proofs.lemmas.Bool.{cases_lt}
use Rattle.std.proofs.lemmas.List.{append-nil}
use Rattle.std.proofs.lemmas.List.Sums.{sum_by-append, sum_by-cons}
use Rattle.std.specs.List.{Contains}
use Rattle.std.specs.List.Sorted.{IsStrictlySortedBy}
use Rattle.std.specs.declared.cmp.Ordering.TheVariants.{Less}
use Rattle.mp_tree.specs.Document.{Document, IsDocument}
use Rattle.mp_tree.specs.Look.{Path}
use Rattle.mp_pointer.specs.Weight.{place_weight}
use Rattle.mp_patch.specs.Work.{no_limit}
use Rattle.mp_merge.specs.Within.{AreFirstConflicts, places_weight}
use Rattle.mp_replica.specs.PatchLog.{AreFirstPairsOf, ArePairsBelow, IsAmong, IsClashing, Pair, StopsBeforeAPair, StopsBeforeAPlace, Stored, identities_of, identity_cmp, pair_base, pair_cmp, pair_weight, pairs_weight}
use Rattle.mp_replica.specs.Private.LawsBelow.{MergeLaws}
use Rattle.mp_replica.specs.Private.Pairs.{AddsPair, AreClashing, AreOf, EndsAmong, EndsAt, KeptPairs, KnowsPairs, Lists, ListsPair}
use Rattle.mp_replica.specs.declared.message.Identity.{Identity}
use Rattle.mp_replica.proofs.Bounded.{more_if_rest, rest_if_more}
use Rattle.mp_replica.proofs.PairsFound.{all_of, before_is_passed, below_next, mapped, none_more_of, none_of, one_more_of, pair_with}

abbrev one_pair : Identity → Identity → List Path → Pair
one_pair i j places = record { first = i; second = j; places = places }

pub below_unless : (n : ℕ) → (pair_base ≤ n → ⊥) → n < pair_base
below_unless n never = elim (cases_lt n pair_base) [ inl below ↦ below | inr past ↦ absurd (never (omega arith)) ]

false_unless : (b : Bool) → ¬ IsTrue b → b ≡ false
false_unless true not = absurd (not refl)
false_unless false not = refl

weight_push : (pairs : List Pair) (pair : Pair) → pairs_weight (pairs ++ pair ∷ []) ≡ pairs_weight pairs + pair_base + places_weight pair.places
weight_push pairs pair = omega (arith, sum_by-append pair_weight pairs (pair ∷ []), sum_by-cons pair_weight pair [])

module _ (of : Option Identity) (stored : Stored) (limit : ℕ) (all : List (Identity × Identity)) (sorted : IsStrictlySortedBy pair_cmp all) where
  pub lists_none : Lists of stored limit all [] [] limit false
  lists_none = record { spent = omega arith; going = λ go. none_of of stored; ended = λ end. absurd (true≢false (sym end)) }

  module _ (passed rest : List (Identity × Identity)) (k l : Identity) (pairs : List Pair) (left : ℕ) (parts : all ≡ passed ++ (k, l) ∷ rest) (lists : Lists of stored limit all passed pairs left false) where
    here : AreOf of stored passed pairs
    here = lists.going refl

    -- it is not asked for
    pub lists_over : ¬ IsAmong of k l → Lists of stored limit all (passed ++ (k, l) ∷ []) pairs left false
    lists_over never = record { spent = lists.spent; going = λ go. none_more_of of stored passed rest k l pairs here (λ both. never both.0); ended = λ end. absurd (true≢false (sym end)) }

    module _ (among : IsAmong of k l) where
      stands : (pair : Pair) → identities_of pair ≡ (k, l) → all ≡ passed ++ identities_of pair ∷ rest
      stands pair is = parts ∙ ap (λ (x : Identity × Identity). passed ++ x ∷ rest) (sym is)

      asked : (pair : Pair) → identities_of pair ≡ (k, l) → IsAmong of pair.first pair.second
      asked pair is = subst (λ (x : Identity × Identity). IsAmong of x.0 x.1) (sym is) among

      -- the list ends with the pair
      ended : (pair : Pair) → identities_of pair ≡ (k, l) → IsClashing stored pair → (now : List Pair) → ((now ≡ pairs) × (limit < pairs_weight now + pair_base)) ⊎ EndsAt limit pairs now pair → EndsAmong of stored limit all now
      ended pair is clashing now ends = record { passed = passed; rest = rest; before = pairs; next = pair; parts = stands pair is; clashing = clashing; among = asked pair is; are = here; ends = ends }

      module _ (pair : Pair) (is : identities_of pair ≡ (k, l)) (clashing : IsClashing stored pair) (shown more_places : List Path) (left' : ℕ) (whole_is : pair.places ≡ shown ++ more_places)
          (spent : left' + pair_base + places_weight shown ≡ left) where
        abbrev cut : Pair
        cut = record { first = k; second = l; places = shown }

        spent_now : left' + pairs_weight (pairs ++ cut ∷ []) ≡ limit
        spent_now = let before = lists.spent in omega (arith, spent, before, weight_push pairs cut)

        whole : more_places ≡ [] → pair ≡ cut
        whole none =
            let first : pair.first ≡ k = ap (λ x. x.0) is in
            let second : pair.second ≡ l = ap (λ x. x.1) is in
            let places : pair.places ≡ shown = whole_is ∙ ap (λ t. shown ++ t) none ∙ append-nil shown in
            ap₂ (λ i j. one_pair i j pair.places) first second ∙ ap (one_pair k l) places

        ended_within : (w : Path) (others : List Path) → more_places ≡ w ∷ others → left' < place_weight w → EndsAmong of stored limit all (pairs ++ cut ∷ [])
        ended_within w others more below = ended pair is clashing (pairs ++ cut ∷ []) (inr (record {
          shown = shown;
          place = w;
          rest = others;
          parts = whole_is ∙ ap (λ t. shown ++ t) more;
          last = rw (ap (λ x. x.0) is, ap (λ x. x.1) is) refl;
          over = omega (arith, spent_now, below);
        }))

        going_on : more_places ≡ [] → AreOf of stored (passed ++ (k, l) ∷ []) (pairs ++ cut ∷ [])
        going_on none =
            subst (λ p. AreOf of stored (passed ++ (k, l) ∷ []) (pairs ++ p ∷ [])) (whole none) (one_more_of of stored passed rest k l pairs here pair (subst (IsStrictlySortedBy pair_cmp) parts sorted) is clashing among)

        added : (more : Bool) → IsTrue more ↔ (more_places ≢ []) → ((w : Path) (others : List Path) → more_places ≡ w ∷ others → left' < place_weight w) → Lists of stored limit all (passed ++ (k, l) ∷ []) (pairs ++ cut ∷ []) left' more
        added more says over = record {
          spent = spent_now;
          going = λ go. going_on (none more_places refl (λ some. true≢false (sym (says.1 some) ∙ go)));
          ended = λ end. by more_places refl (says.0 end);
        }
          where
            none : (r : List Path) → more_places ≡ r → ¬ (more_places ≢ []) → more_places ≡ []
            none [] is never = is
            none (w ∷ others) is never = absurd (never (λ empty. let differ = sym is ∙ empty in cc))

            by : (r : List Path) → more_places ≡ r → more_places ≢ [] → EndsAmong of stored limit all (pairs ++ cut ∷ [])
            by [] is some = absurd (some is)
            by (w ∷ others) is some = ended_within w others is (over w others is)

      -- one more pair
      pub lists_pair : (now : List Pair) (left' : ℕ) (more : Bool) → ListsPair stored k l pairs now left left' more → Lists of stored limit all (passed ++ (k, l) ∷ []) now left' more
      lists_pair now left' more step = elim step [
        | inl adds ↦ elim adds.how [
          | inl before ↦ rw (before.0, before.1, before.3) (record {
            spent = lists.spent;
            going = λ go. absurd (true≢false go);
            ended = λ end. ended adds.pair adds.is adds.clashing pairs (inl (refl, let spent = lists.spent in let below = before.2 in omega (arith, spent, below)));
          })
          | inr cut ↦ subst (λ ps. Lists of stored limit all (passed ++ (k, l) ∷ []) ps left' more) (sym cut.3) (added adds.pair adds.is adds.clashing cut.0 cut.1 left' cut.2 cut.4 more cut.5 cut.6)
        ]
        | inr over ↦ rw (over.1, over.2, over.3) (record {
          spent = lists.spent;
          going = λ go. none_more_of of stored passed rest k l pairs here (λ both. over.0 both.1);
          ended = λ end. absurd (true≢false (sym end));
        })
      ]

-- ---- what is listed in the end

module _ (of : Option Identity) (stored : Stored) (limit : ℕ) (set : KeptPairs) (sorted : IsStrictlySortedBy pair_cmp set.keys) (knows : KnowsPairs stored set) where
  are_below : (passed rest : List (Identity × Identity)) (before : List Pair) (next : Pair) → set.keys ≡ passed ++ identities_of next ∷ rest → AreOf of stored passed before → ArePairsBelow of stored next before
  are_below passed rest before next parts are =
      let here = subst (IsStrictlySortedBy pair_cmp) parts sorted in
      record {
        rising = are.rising;
        each = are.each;
        among = are.among;
        below = λ pair at. below_next pair_cmp passed rest (identities_of pair) (identities_of next) here (are.from (identities_of pair) (mapped identities_of before pair at));
        all = λ i j less among clash earlier.
            are.all i j (before_is_passed passed rest (identities_of next) here (i, j) (subst (λ ks. Contains ks (i, j)) parts (knows.found i j less clash)) earlier) among clash;
      }

  stops : (pairs : List Pair) → EndsAmong of stored limit set.keys pairs → StopsBeforeAPair limit of stored pairs ⊎ StopsBeforeAPlace limit of stored pairs
  stops pairs end =
      let below = are_below end.passed end.rest end.before end.next end.parts end.are in
      elim end.ends [
        | inl before ↦ inl (record { next = end.next; clashing = end.clashing; among = end.among; below = subst (ArePairsBelow of stored end.next) (sym before.0) below; over = before.1 })
        | inr at ↦ inr (record { before = end.before; next = end.next; clashing = end.clashing; among = end.among; below = below; shown = at.shown; place = at.place; rest = at.rest; parts = at.parts; last = at.last; over = at.over })
      ]

  pub first_pairs_found : (passed : List (Identity × Identity)) (pairs : List Pair) (left : ℕ) (more : Bool) → Lists of stored limit set.keys passed pairs left more → (more ≡ false → passed ≡ set.keys) → AreFirstPairsOf limit of stored pairs more
  first_pairs_found passed pairs left more lists done = record {
    within = let spent = lists.spent in omega (arith, spent);
    all = λ not. let go = false_unless more not in all_of of stored set pairs knows (subst (λ ks. AreOf of stored ks pairs) (done go) (lists.going go));
    stops = λ yes. stops pairs (lists.ended yes);
  }

-- ---- one pair

module _ {stored : Stored} {first second : Identity} {p q : Document} (two : AreClashing stored first second p q) (order : identity_cmp first second ≡ Less) where
  pub adds_nothing : MergeLaws → IsDocument p → (pairs : List Pair) (left : ℕ) → left < pair_base → AddsPair stored first second pairs pairs left left true
  adds_nothing laws good pairs left below =
      let found = laws.all_clashes_exist p q good in
      record { pair = one_pair first second found.0; is = refl; clashing = pair_with two order found.0 found.1; how = inl (refl, refl, below, refl) }

  pub adds_places : (pairs : List Pair) (left rest left' : ℕ) (places : List Path) (total : ℕ) (more : Bool) → rest + pair_base ≡ left → rest < no_limit → left' + places_weight places ≡ rest
      → IsTrue more ↔ (length places < total) → AreFirstConflicts rest p q places total → AddsPair stored first second pairs (pairs ++ record { first = first; second = second; places = places } ∷ []) left left' more
  adds_places pairs left rest left' places total more sub bound spent says found = record {
    pair = record { first = first; second = second; places = found.all };
    is = refl;
    clashing = pair_with two order found.all found.clashes;
    how = inr (
      places,
      found.first.rest,
      found.first.whole,
      refl,
      omega (arith, sub, spent),
      (
        λ yes. rest_if_more rest found.all places total bound found.first (says.0 yes),
        λ some. says.1 (more_if_rest rest found.all places total bound found.first some),
      ),
      λ w others is. let longest = found.first.longest w others is in omega (arith, longest, spent),
    );
  }
