-- The work of operations: how the elements that shift are counted, that an operation has one work, and the scale after it.
use Rattle.std.proofs.Common.{◌≡◌, ◌≢◌, ◌≤◌, ◌<◌, ◌+◌, ◌-◌, ◌^◌, inl, inr, ℕ, zero, suc, List, [], ◌∷◌, ◌++◌, length, Option, None, Some, option_and_then, Ok, MatchOption, refl, sym, ap, ◌∙◌, arith}
use Rattle.std.proofs.lemmas.Slice.Eq.{bytes_eq-Decides}
use Rattle.std.specs.Option.{option_map_or}
use Rattle.mp_tree.specs.Document.{Document, null, flag, whole, string, list, object, Items, no_items, item, IsDocument}
use Rattle.mp_tree.specs.Elements.{count_of}
use Rattle.mp_tree.specs.View.{items_by}
use Rattle.mp_tree.specs.Weight.{weight}
use Rattle.mp_tree.proofs.Facts.{count_of-items-by, some_same}
use Rattle.mp_pointer.specs.Part.{part, child, numeral}
use Rattle.mp_pointer.specs.Spelling.{Tokens}
use Rattle.mp_pointer.proofs.Facts.{elsewhere, same_numeral}
use Rattle.mp_patch.specs.Operation.{Operation, add, remove, replace, move, copy, test, Removes, Step}
use Rattle.mp_patch.specs.Run.{IsRefused}
use Rattle.mp_patch.specs.Work.{IsWork, count_from, shifted_at, shifted_in}
use Rattle.mp_patch.specs.Private.Within.{AnswersWithin, CountsWork, IsTooHeavy, IsTooMuch}
use Rattle.mp_patch.specs.declared.scale.Scale.{Scale}
use Rattle.mp_patch.proofs.Operations.Documents.{Removes-once}

-- ---- elements

-- at a place, in what holds it
pub shifted_at-last : (s : Tokens) (last : List ℕ) (d : Document) → shifted_at (s ++ last ∷ []) d ≡ option_map_or (λ x. shifted_in last x) (part d s) 0
shifted_at-last [] last d = refl
shifted_at-last (n ∷ []) last d = at (child n d)
  where
    at : (o : Option Document) → option_map_or (λ e. shifted_in last e) o 0 ≡ option_map_or (λ x. shifted_in last x) (option_and_then (λ e. Some e) o) 0
    at None = refl
    at (Some e) = refl
shifted_at-last (n ∷ m ∷ s) last d = at (child n d) (λ e. shifted_at-last (m ∷ s) last e)
  where
    at : (o : Option Document) → ((e : Document) → shifted_at (m ∷ (s ++ last ∷ [])) e ≡ option_map_or (λ x. shifted_in last x) (part e (m ∷ s)) 0)
        → option_map_or (λ e. shifted_at (m ∷ (s ++ last ∷ [])) e) o 0 ≡ option_map_or (λ x. shifted_in last x) (option_and_then (λ e. part e (m ∷ s)) o) 0
    at None rest = refl
    at (Some e) rest = rest e

count_from-numeral : (i j : ℕ) (token : List ℕ) (ds : Items) → token ≡ numeral (i + j) → count_from i token ds ≡ count_of ds - j
count_from-numeral i j token no_items is = omega arith
count_from-numeral i zero token (item d ds) is = let same : i + 0 ≡ i = omega arith in rw ((bytes_eq-Decides token (numeral i)).1 (is ∙ ap numeral same)) (omega arith)
count_from-numeral i (suc j) token (item d ds) is =
    let apart : token ≢ numeral i = λ e. omega (arith, same_numeral (i + suc j) i (sym is ∙ e)) in
    let further : i + suc j ≡ suc i + j = omega arith in
    let rest = count_from-numeral (suc i) j token ds (is ∙ ap numeral further) in
    rw (elsewhere token i apart) (omega (arith, rest))

count_from-none : (i : ℕ) (token : List ℕ) (ds : Items) → ((j : ℕ) → token ≡ numeral j → i + count_of ds ≤ j) → count_from i token ds ≡ 0
count_from-none i token no_items none = refl
count_from-none i token (item d ds) none =
    let apart : token ≢ numeral i = λ e. omega (arith, none i e) in
    rw (elsewhere token i apart) (count_from-none (suc i) token ds (λ j e. omega (arith, none j e)))

module _ {V : Type 0} (f : V → Document) (token : List ℕ) (vs : List V) (d : Document) (is : d ≡ list (items_by f vs)) where
  pub shifted_in-numeral : (i : ℕ) → token ≡ numeral i → shifted_in token d ≡ length vs - i
  shifted_in-numeral i names_it =
      let from_zero : i ≡ 0 + i = omega arith in
      omega (arith, ap (shifted_in token) is, count_from-numeral 0 i token (items_by f vs) (names_it ∙ ap numeral from_zero), count_of-items-by f vs)

  pub shifted_in-none : length vs < 2 ^ 64 → ((i : ℕ) → token ≡ numeral i → 2 ^ 64 ≤ i) → shifted_in token d ≡ 0
  shifted_in-none short large = ap (shifted_in token) is ∙ count_from-none 0 token (items_by f vs) (λ j e. omega (arith, large j e, short, count_of-items-by f vs))

-- ---- the work of an operation

pub one_work : (d : Document) (o : Operation) (v w : ℕ) → IsDocument d → IsWork d o v → IsWork d o w → v ≡ w
one_work d (add t x) v w good a b = a ∙ sym b
one_work d (remove t) v w good a b = a ∙ sym b
one_work d (replace t x) v w good a b = a ∙ sym b
one_work d (move f t) v w good (inl a) (inl b) = a.1 ∙ sym b.1
one_work d (move f t) v w good (inl a) (inr b) = absurd (b.0 a.0)
one_work d (move f t) v w good (inr a) (inl b) = absurd (a.0 b.0)
one_work d (move f t) v w good (inr a) (inr b) = a.3 ∙ ap (λ m. (shifted_at f d - 1) + shifted_at t m) (Removes-once f d a.1 b.1 good a.2 b.2) ∙ sym b.3
one_work d (copy f t) v w good a b = a.2 ∙ ap (λ x. weight x + shifted_at t d) (some_same a.0 b.0 (sym a.1 ∙ b.1)) ∙ sym b.2
one_work d (test t x) v w good a b = a ∙ sym b

pub some_work : (d : Document) (o : Operation) (e : Document) → Step d o e → (w : ℕ) × IsWork d o w
some_work d (add t x) e step = (shifted_at t d, refl)
some_work d (remove t) e step = (shifted_at t d - 1, refl)
some_work d (replace t x) e step = (0, refl)
some_work d (move f t) e (x, stood, inl same) = (0, inl (same.0, refl))
some_work d (move f t) e (x, stood, inr (other, left, removes, adds)) = ((shifted_at f d - 1) + shifted_at t left, inr (other, left, removes, refl))
some_work d (copy f t) e step = (weight step.0 + shifted_at t d, (step.0, step.1, refl))
some_work d (test t x) e step = (0, refl)

pub counts_move : (removal arrival : ℕ) (f t : Tokens) (d rest : Document) → IsDocument d → f ≢ t → Removes f d rest
    → removal ≡ shifted_at f d - 1 → arrival ≡ shifted_at t rest → CountsWork (removal + arrival) d (move f t)
counts_move removal arrival f t d rest good other removes before after w (inl same) = absurd (other same.0)
counts_move removal arrival f t d rest good other removes before after w (inr works) =
    omega (arith, before, after, ap (shifted_at t) (Removes-once f d rest works.1 good removes works.2), works.3)

-- ---- the scale

pub too_heavy : (scale : Scale) (d : Document) (o : Operation) → IsTooHeavy scale.limit d o → IsTooMuch scale d o
too_heavy scale d o heavy =
    let works = some_work d o heavy.1 heavy.2 in
    (heavy.0, heavy.1, heavy.2, works.0, works.1, inl heavy.3)

-- an operation that was done
module _ (scale : Scale) (n work : ℕ) (d e : Document) (o : Operation) (free : ¬ IsRefused d o) (step : Step d o e) (weighs : n ≡ weight e) (within : n ≤ scale.limit) (counts : CountsWork work d o) where
  pub followed : (r : Option Scale) → MatchOption r (scale.work < work) (λ next. (next.weight ≡ n) × (next.limit ≡ scale.limit) × (next.work + work ≡ scale.work)) → AnswersWithin scale (Ok r) d o e
  followed None exceeds =
      let works = some_work d o e step in
      (free, e, step, works.0, works.1, inr (omega (arith, counts works.0 works.1, exceeds)))
  followed (Some next) says =
      let works = some_work d o e step in (
        free,
        step,
        record {
          weighs = says.0 ∙ weighs;
          within = omega (arith, says.0, within);
          same_limit = says.1;
          work = works.0;
          is_work = works.1;
          leaves = omega (arith, counts works.0 works.1, says.2);
        },
      )

-- a move to where the part is
pub unmoved : (scale : Scale) (d e : Document) (f t : Tokens) → f ≡ t → ¬ IsRefused d (move f t) → Step d (move f t) e → e ≡ d → scale.weight ≡ weight d
    → (r : Option Scale) → MatchOption r (scale.limit < scale.weight) (λ next. (next ≡ scale) × (scale.weight ≤ scale.limit)) → AnswersWithin scale (Ok r) d (move f t) e
unmoved scale d e f t same free step stays weighs None over = (free, e, step, 0, inl (same, refl), inl (omega (arith, over, weighs, ap weight stays)))
unmoved scale d e f t same free step stays weighs (Some next) says = (
  free,
  step,
  record {
    weighs = ap Scale.weight says.0 ∙ weighs ∙ ap weight (sym stays);
    within = omega (arith, ap Scale.weight says.0, says.1);
    same_limit = ap Scale.limit says.0;
    work = 0;
    is_work = inl (same, refl);
    leaves = omega (arith, ap Scale.work says.0);
  },
)
