-- By how much an operation changes the weight of a document.
use Rattle.std.proofs.Common.{◌≡◌, ◌≢◌, ◌≤◌, ◌<◌, ◌+◌, inl, inr, ℕ, List, [], ◌∷◌, ◌++◌, length, MatchOption, Bool, IsFalse, Option, None, Some, option_and_then, Ok, refl, sym, ap, ◌∙◌, subst, arith, true≢false}
use Rattle.mp_tree.specs.Document.{Document, null, flag, whole, string, list, object, Items, no_items, item, Members, find, IsDocument, depth, depth_limit}
use Rattle.mp_tree.specs.Weight.{name_weight, weight}
use Rattle.mp_tree.specs.Elements.{append, count_of, nth}
use Rattle.mp_tree.proofs.Facts.{weight_at, items_weight-append, members_weight-put, members_weight-without, same_some, some_same}
use Rattle.mp_pointer.specs.Part.{part, child}
use Rattle.mp_pointer.specs.Spelling.{Tokens}
use Rattle.mp_pointer.proofs.Facts.{weighs_by_part, part-weight, part-document, document-changed, rewrite_part, same_last, not_empty, child-numeral, child-object, part-push}
use Rattle.mp_patch.specs.Operation.{add, remove, replace, copy, AddsTo, to_map, to_list, RemovesFrom, from_map, from_list, Adds, Removes, Replaces}
use Rattle.mp_patch.specs.Private.Within.{Fits, Judges}
use Rattle.mp_patch.specs.Refusal.{HasNoPlace, LacksPlace}
use Rattle.mp_patch.specs.Run.{IsRefused}
use Rattle.mp_patch.specs.Private.Exchange.{IsExchange, TakesAt, named_weight, gives_at, takes_at}
use Rattle.mp_patch.proofs.FirstCause.{free_of, unrefused}
use Rattle.mp_patch.proofs.Operations.Documents.{Adds-document, Removes-document}
use Rattle.mp_patch.proofs.Operations.Moves.{copied}
use Rattle.mp_patch.proofs.Operations.SingleSteps.{has_place, root_place, adds_freely, removes_freely, replaces_freely}
use Rattle.mp_patch.proofs.Operations.SomeStep.{some_addition, some_removal}

-- ---- in the container

same_weight : (n : List ℕ) (o : Option Document) → named_weight n o ≡ weight_at n o
same_weight n None = refl
same_weight n (Some d) = refl

adds-weight : (v : Document) (token : List ℕ) (x y : Document) → IsDocument x → AddsTo v token x y → weight y + gives_at token x ≡ weight x + takes_at token x + weight v
adds-weight v token x y good (to_map ms is now) =
    omega (arith, ap weight is, ap weight now, ap (gives_at token) is, ap (takes_at token) is, members_weight-put token v ms (subst IsDocument is good), same_weight token (find token ms))
adds-weight v token x y good (to_list front back names_it is now) =
    omega (arith, ap weight is, ap weight now, ap (gives_at token) is, ap (takes_at token) is, items_weight-append front back, items_weight-append front (item v back))

nth_after : (front back : Items) (x : Document) → nth (count_of front) (append front (item x back)) ≡ Some x
nth_after no_items back x = refl
nth_after (item d front) back x = nth_after front back x

removes-weight : (token : List ℕ) (x y c : Document) → RemovesFrom token x y → child token x ≡ Some c → weight y + takes_at token x + weight c ≡ weight x
removes-weight token x y c (from_map ms v here is now) there =
    let same : c ≡ v = some_same c v (sym there ∙ ap (child token) is ∙ child-object token ms ∙ here) in
    omega (arith, ap weight is, ap weight now, ap (takes_at token) is, members_weight-without token ms, ap (weight_at token) here, ap weight same)
removes-weight token x y c (from_list front back v names_it is now) there =
    let same : c ≡ v = some_same c v (sym there ∙ ap (child token) is ∙ child-numeral token (count_of front) (append front (item v back)) names_it ∙ nth_after front back v) in
    omega (arith, ap weight is, ap weight now, ap (takes_at token) is, items_weight-append front back, items_weight-append front (item v back), ap weight same)

gives_within : (n : List ℕ) (x : Document) → gives_at n x ≤ weight x
gives_within n null = omega arith
gives_within n (flag b) = omega arith
gives_within n (whole z) = omega arith
gives_within n (string s) = omega arith
gives_within n (list ds) = omega arith
gives_within n (object ms) = omega (arith, members_weight-without n ms, same_weight n (find n ms))

-- ---- in the document

Adds-weight : (t s : Tokens) (last : List ℕ) (v d e x : Document) → IsDocument d → IsDocument v → t ≡ s ++ last ∷ [] → part d s ≡ Some x → Adds t v d e → weight e + gives_at last x ≡ weight d + takes_at last x + weight v
Adds-weight t s last v d e x good value is stood (inl root) = absurd (not_empty s last (sym is ∙ root.0))
Adds-weight t s last v d e x good value is stood (inr c) =
    let places = same_last c.container s c.last last (sym c.is ∙ is) in
    let start : c.before ≡ x = some_same c.before x (sym c.stood ∙ ap (part d) places.0 ∙ stood) in
    let all = weighs_by_part c.container d e c.before c.after good (Adds-document t v d e good value (inr c)) c.only c.stood c.stands in
    let inside = adds-weight v c.last c.before c.after (part-document c.container d c.before good c.stood) c.changed in
    let gives : gives_at c.last c.before ≡ gives_at last x = ap (λ n. gives_at n c.before) places.1 ∙ ap (gives_at last) start in
    let takes : takes_at c.last c.before ≡ takes_at last x = ap (λ n. takes_at n c.before) places.1 ∙ ap (takes_at last) start in
    omega (arith, all, inside, gives, takes)

-- what goes away is the part and, in an object, its name
pub Removes-weight : (t : Tokens) (d e x : Document) (named : ℕ) → IsDocument d → IsDocument e → TakesAt d t named → part d t ≡ Some x → Removes t d e → weight e + (named + weight x) ≡ weight d
Removes-weight t d e x named good new takes there c =
    let all = weighs_by_part c.container d e c.before c.after good new c.only c.stood c.stands in
    let here : child c.last c.before ≡ Some x = ap (option_and_then (child c.last)) (sym c.stood) ∙ sym (part-push d c.container c.last) ∙ ap (part d) (sym c.is) ∙ there in
    omega (arith, all, removes-weight c.last c.before c.after x c.changed here, takes c.container c.last c.before c.is c.stood)

-- ---- what an addition exchanges

exchange_there : (d x : Document) (t s : Tokens) (last : List ℕ) (gives takes : ℕ) → IsDocument d → t ≡ s ++ last ∷ [] → part d s ≡ Some x → ¬ LacksPlace last (Some x) → gives ≡ gives_at last x → takes ≡ takes_at last x → IsExchange d t gives takes
exchange_there d x t s last gives takes good is stood place given taken = record {
  place = has_place d x t s last is stood place;
  within = omega (arith, given, gives_within last x, part-weight s d x good stood);
  is = λ v e value adds. omega (arith, given, taken, Adds-weight t s last v d e x good value is stood adds);
}

pub exchanged : (r : Option (ℕ × ℕ)) (d x : Document) (t s : Tokens) (last : List ℕ) → IsDocument d → t ≡ s ++ last ∷ [] → part d s ≡ Some x
    → MatchOption r (LacksPlace last (Some x)) (λ p. (¬ LacksPlace last (Some x)) × (p.0 ≡ gives_at last x) × (p.1 ≡ takes_at last x))
    → MatchOption r (HasNoPlace d t) (λ p. IsExchange d t p.0 p.1)
exchanged None d x t s last good is stood lacks = (s, last, is, subst (LacksPlace last) (sym stood) lacks)
exchanged (Some p) d x t s last good is stood says = exchange_there d x t s last p.0 p.1 good is stood says.0 says.1 says.2

-- ---- what is said of the container

pub in_map : (n : List ℕ) (d : Document) (ms : Members) (o : Option Document) (gives takes : ℕ) → d ≡ object ms → find n ms ≡ o → gives ≡ named_weight n o → takes ≡ name_weight + length n
    → (¬ LacksPlace n (Some d)) × (gives ≡ gives_at n d) × (takes ≡ takes_at n d)
in_map n d ms o gives takes is found given taken = (
  λ lacks. subst (λ x. LacksPlace n (Some x)) is lacks,
  given ∙ ap (named_weight n) (sym found) ∙ ap (gives_at n) (sym is),
  taken ∙ ap (takes_at n) (sym is),
)

pub in_array : (n : List ℕ) (d : Document) (ds : Items) → d ≡ list ds → (0 ≡ gives_at n d) × (0 ≡ takes_at n d)
in_array n d ds is = (ap (gives_at n) (sym is), ap (takes_at n) (sym is))

pub old_weight : (n : List ℕ) (d x : Document) (ms : Members) → d ≡ object ms → find n ms ≡ Some x → name_weight + length n + weight x ≤ weight d
old_weight n d x ms is found = omega (arith, gives_within n d, ap (gives_at n) is, ap (named_weight n) found)

-- ---- judgements

module _ (limit : ℕ) (d : Document) (t : Tokens) where
  -- what is refused leaves no document
  unfit : (fits : Bool) (v : Document) → Fits fits t v → IsFalse fits → ¬ (length t + depth v ≤ depth_limit)
  unfit fits v fit false fits_too = true≢false (sym (fit.1 fits_too) ∙ false)

  pub unfit_addition : (n : ℕ) (fits : Bool) (v : Document) → Fits fits t v → IsFalse fits → Judges limit (Some n) d (add t v)
  unfit_addition n fits v fit false e free adds = absurd (unfit fits v fit false (omega (arith, (free_of d (add t v) free).1.0)))

  -- what is not refused leaves one of that weight
  pub judged_addition : (total gives takes : ℕ) (r : Option ℕ) (v : Document) → IsDocument d → IsDocument v → IsExchange d t gives takes → (r ≡ None → length t + depth v ≤ depth_limit) → total + gives ≡ weight d + takes + weight v
      → MatchOption r (limit < total) (λ n. (n ≡ total) × (n ≤ limit)) → Judges limit r d (add t v)
  judged_addition total gives takes None v good value x fits sum over = elim (some_addition t v d good) [
    | inl e ↦ (adds_freely d t v x.place (fits refl), e.0, e.1, omega (arith, sum, over, x.is v e.0 value e.1))
    | inr none ↦ absurd (x.place none)
  ]
  judged_addition total gives takes (Some n) v good value x fits sum says = λ e free adds. (omega (arith, sum, says.0, x.is v e value adds), says.1)

  pub judged_replacement : (total : ℕ) (r : Option ℕ) (x v : Document) → IsDocument d → IsDocument v → part d t ≡ Some x → (r ≡ None → length t + depth v ≤ depth_limit) → total + weight x ≡ weight d + weight v
      → MatchOption r (limit < total) (λ n. (n ≡ total) × (n ≤ limit)) → Judges limit r d (replace t v)
  judged_replacement total r x v good value stood fits sum says = at r fits says
    where
      weighs : (e : Document) → Replaces t v d e → weight e ≡ total
      weighs e replaces = omega (arith, sum, weighs_by_part t d e x v good (document-changed t d e v good replaces.2 replaces.1 value) replaces.2 stood replaces.1)

      at : (r : Option ℕ) → (r ≡ None → length t + depth v ≤ depth_limit) → MatchOption r (limit < total) (λ n. (n ≡ total) × (n ≤ limit)) → Judges limit r d (replace t v)
      at None fits over =
          let e = rewrite_part t d x v good stood in
          let replaces : Replaces t v d e.0 = ((x, stood), e.1, e.2) in
          (replaces_freely d x t v stood (fits refl), e.0, replaces, omega (arith, over, weighs e.0 replaces))
      at (Some n) fits says = λ e free replaces. (omega (arith, says.0, weighs e replaces), says.1)

  pub judged_copy : (r : Option ℕ) (f : Tokens) (x : Document) → part d f ≡ Some x → Judges limit r d (add t x) → Judges limit r d (copy f t)
  judged_copy None f x stood j = let done = copied f t x d stood (Ok tt) j.1 (j.0, j.2) in (done.0, j.1, done.1, j.3)
  judged_copy (Some n) f x stood j = λ e free copies.
      j e (unrefused_addition f x stood free) (subst (λ v. Adds t v d e) (same_some (part d f) copies.0 x copies.1 stood) copies.2)
    where
      unrefused_addition : (f : Tokens) (x : Document) → part d f ≡ Some x → ¬ IsRefused d (copy f t) → ¬ IsRefused d (add t x)
      unrefused_addition f x stood free =
          let none = free_of d (copy f t) free in
          unrefused d (add t x) (none.1.0, ((λ deep. none.1.1.0 (x, stood, deep)), tt))

  -- a part that is there weighs no more with its name than the document
  pub removable : (named : ℕ) (x : Document) → IsDocument d → t ≢ [] → part d t ≡ Some x → TakesAt d t named → named + weight x ≤ weight d
  removable named x good deeper stood takes =
      let e = some_removal t d x good deeper stood in
      omega (arith, Removes-weight t d e.0 x named good (Removes-document t d e.0 good e.1) takes stood e.1)

  pub judged_removal : (total named : ℕ) (r : Option ℕ) (x : Document) → IsDocument d → t ≢ [] → part d t ≡ Some x → TakesAt d t named → total + (named + weight x) ≡ weight d
      → MatchOption r (limit < total) (λ n. (n ≡ total) × (n ≤ limit)) → Judges limit r d (remove t)
  judged_removal total named r x good deeper stood takes sum says = at r says
    where
      weighs : (e : Document) → Removes t d e → weight e ≡ total
      weighs e removes = omega (arith, sum, Removes-weight t d e x named good (Removes-document t d e good removes) takes stood removes)

      at : (r : Option ℕ) → MatchOption r (limit < total) (λ n. (n ≡ total) × (n ≤ limit)) → Judges limit r d (remove t)
      at None over =
          let e = some_removal t d x good deeper stood in
          (removes_freely d x t stood deeper, e.0, e.1, omega (arith, over, weighs e.0 e.1))
      at (Some n) says = λ e free removes. (omega (arith, says.0, weighs e removes), says.1)
