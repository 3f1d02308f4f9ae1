-- What the walk over a patch and a document adds within a limit, and without one.
use Rattle.std.proofs.Common.{◌≡◌, ◌≢◌, ◌≤◌, ◌<◌, ◌+◌, ◌⊎◌, inl, inr, ◌↔◌, ℕ, List, [], ◌∷◌, ◌++◌, map, length, Some, refl, sym, ap, ap₂, ◌∙◌, subst, arith, append-nil, append_assoc, length-append}
use Rattle.std.proofs.lemmas.List.{map-append}
use Rattle.std.proofs.lemmas.List.Sums.{sum_by-cons, sum_by-append}
use Rattle.std.specs.List.{Contains, flat_map, sum_by}
use Rattle.std.specs.List.Sorted.{IsStrictlySortedBy}
use Rattle.mp_tree.specs.Document.{Document, IsDocument}
use Rattle.mp_tree.specs.Look.{Path}
use Rattle.mp_patch.specs.Operation.{Operation}
use Rattle.mp_patch.specs.Weight.{operations_weight}
use Rattle.mp_patch.specs.Work.{no_limit}
use Rattle.mp_merge.specs.Clash.{path_cmp}
use Rattle.mp_merge.specs.EditPlace.{IsEditPlace}
use Rattle.mp_merge.specs.Laws.{HasOneFitting, RewritingIsWithinOrNot, WithinIsNotTooLarge}
use Rattle.mp_merge.specs.Private.Budgets.{IsBudget, add_each, admit}
use Rattle.mp_merge.specs.Private.Edits.{Admitted, AreEdits, GuardedEdit, Lists, admit_edit, guarded_weight, with_edit}
use Rattle.mp_merge.specs.Private.Growth.{GrewBy}
use Rattle.mp_merge.specs.Rewriting.{IsRewriting}
use Rattle.mp_merge.specs.Within.{IsTooLargeRewriting, guarded_edits}
use Rattle.mp_merge.specs.declared.budget.Budget.{Budget}
use Rattle.mp_merge.specs.declared.budget.Budget.TheVariants.{Unlimited, Left, Over}
use Rattle.mp_merge.proofs.Budgets.{Ends, Taken, all_added, none_added, same_front, taken}
use Rattle.mp_merge.proofs.Paths.Rising.{same_rising}
use Rattle.mp_merge.proofs.Rewritings.Computed.{EditsAt, guarded_at, listed_at, walk_finds_places, walk_is_rewriting}

-- ---- the tests and the edits that are added

abbrev tests : List GuardedEdit → List Operation
tests gs = flat_map (λ (g : GuardedEdit). g.0) gs

abbrev edits_in : List GuardedEdit → List Operation
edits_in gs = map (λ (g : GuardedEdit). g.1) gs

both_lists : (gs : List GuardedEdit) (lists : Lists) → add_each with_edit lists gs ≡ (lists.0 ++ tests gs, lists.1 ++ edits_in gs)
both_lists [] lists = ap₂ (λ (xs ys : List Operation). (xs, ys)) (sym (append-nil lists.0)) (sym (append-nil lists.1))
both_lists (g ∷ gs) lists =
    both_lists gs (with_edit lists g)
    ∙ ap₂ (λ (xs ys : List Operation). (xs, ys)) (append_assoc lists.0 g.0 (tests gs)) (append_assoc lists.1 (g.1 ∷ []) (edits_in gs))

weight-append : (os us : List Operation) → operations_weight (os ++ us) ≡ operations_weight os + operations_weight us
weight-append [] us = omega arith
weight-append (o ∷ os) us = omega (arith, weight-append os us)

weigh_together : (gs : List GuardedEdit) → operations_weight (tests gs ++ edits_in gs) ≡ sum_by guarded_weight gs
weigh_together [] = refl
weigh_together (g ∷ gs) =
    let whole : operations_weight (tests (g ∷ gs) ++ edits_in (g ∷ gs)) ≡ operations_weight (tests (g ∷ gs)) + operations_weight (edits_in (g ∷ gs)) = weight-append (tests (g ∷ gs)) (edits_in (g ∷ gs)) in
    let first : operations_weight (tests (g ∷ gs)) ≡ operations_weight g.0 + operations_weight (tests gs) = weight-append g.0 (tests gs) in
    omega (arith, whole, first, weight-append (tests gs) (edits_in gs), weigh_together gs, sum_by-cons guarded_weight g gs)

-- once a place did not fit, a walk adds nothing, whatever it passes
pub passes_over : (lists : Lists) (b : Budget) (Holds : List GuardedEdit → Type 0) → b ≡ Over → (found : List GuardedEdit) → Holds found → GrewBy (add_each admit_edit) (lists, b) (lists, b) Holds
passes_over lists b Holds over found holds =
    (found, subst (λ (x : Budget). (lists, x) ≡ add_each admit_edit (lists, x) found) (sym over) (sym (none_added with_edit guarded_weight found lists)), holds)

-- ---- a list that is split, of what stands at places

module _ {A B : Type 0} (f : A → B) where
  map_split : (xs : List A) (front back : List B) → map f xs ≡ front ++ back → (some : List A) × (rest : List A) × (xs ≡ some ++ rest) × (front ≡ map f some) × (back ≡ map f rest)
  map_split xs [] back is = ([], xs, refl, refl, sym is)
  map_split [] (b ∷ front) back is = absurd (cc)
  map_split (x ∷ xs) (b ∷ front) back is =
      let here : f x ≡ b = cc in
      let later : map f xs ≡ front ++ back = cc in
      let s = map_split xs front back later in (x ∷ s.0, s.1, ap (λ us. x ∷ us) s.2, ap₂ (λ u us. u ∷ us) (sym here) s.3, s.4)

  map_next : (rest : List A) (b : B) (more : List B) → b ∷ more ≡ map f rest → (x : A) × (others : List A) × (rest ≡ x ∷ others) × (b ≡ f x)
  map_next [] b more is = absurd (cc)
  map_next (x ∷ rest) b more is = (x, rest, refl, cc)

module _ (d p : Document) where
  abbrev at_places : List Path → List GuardedEdit
  at_places ws = map (guarded_at d p) ws

  abbrev weight_at : List Path → ℕ
  weight_at ws = sum_by guarded_weight (at_places ws)

  weighs : (ws : List Path) → operations_weight (guarded_edits d p ws) ≡ weight_at ws
  weighs ws = ap operations_weight (sym (listed_at d p ws)) ∙ weigh_together (at_places ws)

  weighs_more : (ws us : List Path) → weight_at (ws ++ us) ≡ weight_at ws + weight_at us
  weighs_more ws us = ap (sum_by guarded_weight) (map-append (guarded_at d p) ws us) ∙ sum_by-append guarded_weight (at_places ws) (at_places us)

  weighs_next : (w : Path) (ws : List Path) → weight_at (w ∷ ws) ≡ guarded_weight (guarded_at d p w) + weight_at ws
  weighs_next w ws = sum_by-cons guarded_weight (guarded_at d p w) (at_places ws)

-- ---- what is taken of what the walk passes

abbrev IsTaken : ℕ → List GuardedEdit → Admitted → Type 0
IsTaken limit found end = Taken with_edit guarded_weight limit ([], []) found end

module _ (limit : ℕ) (d p : Document) (found : List GuardedEdit) (at : EditsAt d p found) (end : Admitted) (t : IsTaken limit found end) where
  abbrev Listed : List Operation → Type 0
  Listed operations = (operations ≡ guarded_edits d p at.places) × (operations_weight operations ≤ limit)

  lists_are : end.0 ≡ (tests t.added, edits_in t.added)
  lists_are = t.is ∙ both_lists t.added ([], [])

  all_are : end.0.0 ++ end.0.1 ≡ tests t.added ++ edits_in t.added
  all_are = ap (λ (lists : Lists). lists.0 ++ lists.1) lists_are

  if_all : t.rest ≡ [] → Listed (end.0.0 ++ end.0.1)
  if_all none =
      let same : found ≡ t.added = t.split ∙ ap (λ us. t.added ++ us) none ∙ append-nil t.added in (
        all_are ∙ ap (λ (gs : List GuardedEdit). tests gs ++ edits_in gs) (sym same ∙ at.is) ∙ listed_at d p at.places,
        omega (arith, ap operations_weight all_are, weigh_together t.added, t.within),
      )

  if_not : (g : GuardedEdit) (more : List GuardedEdit) → t.rest ≡ g ∷ more → limit < sum_by guarded_weight t.added + guarded_weight g → IsTooLargeRewriting limit (length end.0.0 + length end.0.1) d p
  if_not g more is over =
      let split = map_split (guarded_at d p) at.places t.added t.rest (sym at.is ∙ t.split) in
      let next = map_next (guarded_at d p) split.1 g more (sym is ∙ split.4) in
      let whole : at.places ≡ split.0 ++ next.0 ∷ next.1 = split.2 ∙ ap (λ us. split.0 ++ us) next.2 in
      let here : guarded_edits d p split.0 ≡ tests t.added ++ edits_in t.added = sym (listed_at d p split.0) ∙ ap (λ (gs : List GuardedEdit). tests gs ++ edits_in gs) (sym split.3) in
      let weight_is : weight_at d p split.0 ≡ sum_by guarded_weight t.added = ap (sum_by guarded_weight) (sym split.3) in
      let next_is : guarded_weight g ≡ guarded_weight (guarded_at d p next.0) = ap guarded_weight next.3 in
      record {
        places = split.0;
        next = next.0;
        rest = next.1;
        rising = subst (IsStrictlySortedBy path_cmp) whole at.rising;
        all = subst (λ (ws : List Path). (w : Path) → Contains ws w ↔ IsEditPlace d p w) whole at.all;
        within = omega (arith, weighs d p split.0, weight_is, t.within);
        over = omega (arith, weighs d p (split.0 ++ next.0 ∷ []), weighs_more d p split.0 (next.0 ∷ []), weighs_next d p next.0 [], weight_is, next_is, over);
        counted = sym (length-append end.0.0 end.0.1) ∙ ap length (all_are ∙ sym here);
      }

  abbrev Ending : Type 0
  Ending = ((t.rest ≡ []) × ¬ (end.1 ≡ Over)) ⊎ ((g : GuardedEdit) × (more : List GuardedEdit) × (t.rest ≡ g ∷ more) × (limit < sum_by guarded_weight t.added + guarded_weight g) × (end.1 ≡ Over))

  all_listed : Ending → ¬ (end.1 ≡ Over) → Listed (end.0.0 ++ end.0.1)
  all_listed (inl (none, open_yet)) left = if_all none
  all_listed (inr (g, more, is, over, ends)) left = absurd (left ends)

  too_large_at : Ending → end.1 ≡ Over → IsTooLargeRewriting limit (length end.0.0 + length end.0.1) d p
  too_large_at (inl (none, open_yet)) ends = absurd (open_yet ends)
  too_large_at (inr (g, more, is, over, also)) ends = if_not g more is over

  either : Ending → (operations_weight (guarded_edits d p at.places) ≤ limit) ⊎ ((fitting : ℕ) × IsTooLargeRewriting limit fitting d p)
  either (inl (none, open_yet)) = let listed = if_all none in inl (omega (arith, ap operations_weight listed.0, listed.1))
  either (inr (g, more, is, over, ends)) = inr (length end.0.0 + length end.0.1, if_not g more is over)

-- ---- the walk

module _ (d p : Document) (found : List GuardedEdit) (end : Admitted) (good : IsDocument p) (walk : AreEdits [] p (Some d) found) where
  its_places : EditsAt d p found
  its_places = walk_finds_places d p found good walk

  is_taken : (limit : ℕ) → end ≡ add_each admit_edit (([], []), Left limit) found → IsTaken limit found end
  is_taken limit ends = subst (IsTaken limit found) (sym ends) (taken with_edit guarded_weight found limit ([], []))

  pub within_limit : (limit : ℕ) (budget : Budget) → IsBudget limit budget → end ≡ add_each admit_edit (([], []), budget) found → (operations : List Operation) → ¬ (end.1 ≡ Over) → operations ≡ end.0.0 ++ end.0.1
      → IsRewriting d p operations × (limit ≢ no_limit → operations_weight operations ≤ limit)
  within_limit limit Unlimited none ends operations left is =
      let lists : end.0 ≡ (tests found, edits_in found) = ap (λ (x : Admitted). x.0) (ends ∙ all_added with_edit guarded_weight found ([], [])) ∙ both_lists found ([], []) in
      (walk_is_rewriting d p found operations good walk (is ∙ ap (λ (x : Lists). x.0 ++ x.1) lists), λ limited. absurd (limited none))
  within_limit limit (Left budget) (limited, same) ends operations left is =
      let taken_of = is_taken budget ends in
      let listed = all_listed budget d p found its_places end taken_of taken_of.ends left in (
        record { places = its_places.places; rising = its_places.rising; all = its_places.all; guarded = is ∙ listed.0 },
        λ also. omega (arith, ap operations_weight is, listed.1, same),
      )
  within_limit limit Over never ends operations left is = absurd never

  pub too_large : (limit : ℕ) (budget : Budget) → IsBudget limit budget → end ≡ add_each admit_edit (([], []), budget) found → end.1 ≡ Over
      → (limit ≢ no_limit) × IsTooLargeRewriting limit (length end.0.0 + length end.0.1) d p
  too_large limit Unlimited none ends over =
      let never : Unlimited ≡ Over = sym (ap (λ (x : Admitted). x.1) (ends ∙ all_added with_edit guarded_weight found ([], []))) ∙ over in absurd (cc)
  too_large limit (Left budget) (limited, same) ends over =
      let taken_of = is_taken budget ends in
      (limited, subst (λ (l : ℕ). IsTooLargeRewriting l (length end.0.0 + length end.0.1) d p) same (too_large_at budget d p found its_places end taken_of taken_of.ends over))
  too_large limit Over never ends over = absurd never

-- ---- the laws

pub rewriting_is_within_or_not : RewritingIsWithinOrNot
rewriting_is_within_or_not limit d p operations is =
    let found = map (guarded_at d p) is.places in
    let at : EditsAt d p found = record { places = is.places; rising = is.rising; all = is.all; is = refl } in
    let t = taken with_edit guarded_weight found limit ([], []) in
    subst (λ (os : List Operation). (operations_weight os ≤ limit) ⊎ ((fitting : ℕ) × IsTooLargeRewriting limit fitting d p)) (sym is.guarded)
    (either limit d p found at (add_each (admit with_edit guarded_weight) (([], []), Left limit) found) t t.ends)

pub within_is_not_too_large : WithinIsNotTooLarge
within_is_not_too_large limit fitting d p operations is fits large =
    let all = large.places ++ large.next ∷ large.rest in
    let same : is.places ≡ all = same_rising is.places all is.rising large.rising (λ w. (λ at. (large.all w).1 ((is.all w).0 at), λ at. (is.all w).1 ((large.all w).0 at))) in
    let weight_is : operations_weight operations ≡ weight_at d p all = ap operations_weight is.guarded ∙ weighs d p is.places ∙ ap (weight_at d p) same in
    omega (
      arith,
      fits,
      large.over,
      weight_is,
      weighs_more d p large.places (large.next ∷ large.rest),
      weighs_next d p large.next large.rest,
      weighs d p (large.places ++ large.next ∷ []),
      weighs_more d p large.places (large.next ∷ []),
      weighs_next d p large.next [],
    )

module _ (limit : ℕ) (d p : Document) where
  fits_before : {fitting : ℕ} (large : IsTooLargeRewriting limit fitting d p) → 0 + weight_at d p large.places ≤ limit
  fits_before large = omega (arith, large.within, weighs d p large.places)

  ends_there : {fitting : ℕ} (large : IsTooLargeRewriting limit fitting d p) → Ends guarded_weight limit 0 (at_places d p large.places) (at_places d p (large.next ∷ large.rest))
  ends_there large g more is =
      let first : guarded_at d p large.next ≡ g = cc in
      omega (
        arith,
        large.over,
        weighs d p (large.places ++ large.next ∷ []),
        weighs_more d p large.places (large.next ∷ []),
        weighs_next d p large.next [],
        ap guarded_weight first,
      )

pub one_fitting : HasOneFitting
one_fitting limit fitting other d p one two =
    let here = one.places ++ one.next ∷ one.rest in
    let there = two.places ++ two.next ∷ two.rest in
    let same : here ≡ there = same_rising here there one.rising two.rising (λ w. (λ at. (two.all w).1 ((one.all w).0 at), λ at. (one.all w).1 ((two.all w).0 at))) in
    let lists : at_places d p one.places ++ at_places d p (one.next ∷ one.rest) ≡ at_places d p two.places ++ at_places d p (two.next ∷ two.rest) = sym (map-append (guarded_at d p) one.places (one.next ∷ one.rest))
    ∙ ap (at_places d p) same ∙ map-append (guarded_at d p) two.places (two.next ∷ two.rest) in
    let front = same_front guarded_weight limit (at_places d p one.places) (at_places d p two.places) (at_places d p (one.next ∷ one.rest)) (at_places d p (two.next ∷ two.rest)) 0 lists (fits_before limit d p one) (fits_before limit d p two)
    (ends_there limit d p one) (ends_there limit d p two) in
    one.counted ∙ ap length (sym (listed_at d p one.places) ∙ ap (λ (gs : List GuardedEdit). tests gs ++ edits_in gs) front ∙ listed_at d p two.places) ∙ sym two.counted
