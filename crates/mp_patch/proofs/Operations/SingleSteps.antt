-- What an operation does, from what was done to the container of its place.
use Rattle.std.proofs.Common.{◌≡◌, ◌≢◌, ◌<◌, ◌≤◌, ◌+◌, ◌⊎◌, inl, inr, ℕ, suc, List, [], ◌∷◌, ◌++◌, length, get_or, take, drop, Bool, Option, None, Some, option_and_then, option_map, Result, Ok, Err, IsTrue, refl, sym, ap, ap₂, ◌∙◌, subst, arith, true≢false, add-one, MatchResult, MatchOption, IsFalse}
use Rattle.std.proofs.lemmas.List.{take-append-drop, drop_more, length-take-le}
use Rattle.mp_tree.specs.Document.{Document, Members, list, object, find, put, without, depth, depth_limit}
use Rattle.mp_tree.specs.View.{items_by}
use Rattle.mp_tree.specs.Elements.{count_of}
use Rattle.mp_tree.proofs.Facts.{count_of-items-by, nth-here-by, items-append-by}
use Rattle.mp_pointer.specs.Difference.{DifferOnlyAt}
use Rattle.mp_pointer.specs.Part.{part, child, numeral}
use Rattle.mp_pointer.specs.Spelling.{Tokens}
use Rattle.mp_pointer.proofs.Facts.{child-numeral, same_last, not_empty}
use Rattle.mp_pointer.proofs.Facts.{child-object, part-push}
use Rattle.mp_patch.proofs.FirstCause.{unrefused}
use Rattle.mp_patch.specs.Operation.{add, remove, replace, test, ChangesContainer, AddsTo, to_map, to_list, RemovesFrom, from_map, from_list, dash, NamesPlace}
use Rattle.mp_patch.specs.Refusal.{LacksPlace, HasNoPlace, IsTooDeep, IsMissing, RefusedBy}
use Rattle.mp_patch.specs.Run.{IsRefused}
use Rattle.mp_patch.specs.Private.Steps.{Answers, Inserts}
use Rattle.mp_patch.specs.declared.fault.Cause.{Cause}
use Rattle.mp_patch.specs.declared.fault.Cause.TheVariants.{IntoItself, RemoveRoot, Missing, NoPlace, TooDeep, TestFailed}
use Rattle.mp_patch.specs.declared.fault.Refusal.{Refusal}
use Rattle.mp_patch.specs.declared.fault.Refusal.TheVariants.{By, OutOfMemory}

-- ---- elements, of what means a document by f

module _ {V : Type 0} (f : V → Document) where
  count_to : (i : ℕ) (vs : List V) → i ≤ length vs → count_of (items_by f (take i vs)) ≡ i
  count_to i vs within = count_of-items-by f (take i vs) ∙ length-take-le i vs within

  pub element_removed-by : (token : List ℕ) (i : ℕ) (vs ws : List V) (x : V) → token ≡ numeral i → i < length vs → x ≡ get_or vs i x → ws ≡ take i vs ++ drop (suc i) vs
      → (child token (list (items_by f vs)) ≡ Some (f x)) × RemovesFrom token (list (items_by f vs)) (list (items_by f ws))
  element_removed-by token i vs ws x names_it within is left =
      let split : vs ≡ take i vs ++ x ∷ drop (suc i) vs = sym (take-append-drop i vs) ∙ ap (λ r. take i vs ++ r) (drop_more vs i x within ∙ ap₂ (λ a n. a ∷ drop n vs) (sym is) (add-one i)) in (
        child-numeral token i (items_by f vs) names_it ∙ nth-here-by f vs i x within is,
        from_list (items_by f (take i vs)) (items_by f (drop (suc i) vs)) (f x) (names_it ∙ ap numeral (sym (count_to i vs (omega arith))))
            (ap (λ ds. list (items_by f ds)) split ∙ ap list (items-append-by f (take i vs) (x ∷ drop (suc i) vs)))
            (ap (λ ds. list (items_by f ds)) left ∙ ap list (items-append-by f (take i vs) (drop (suc i) vs))),
      )

  drop_whole : (xs : List V) → drop (length xs) xs ≡ []
  drop_whole [] = refl
  drop_whole (x ∷ xs) = drop_whole xs

  named_place : (token : List ℕ) (i : ℕ) (vs : List V) → i ≤ length vs → (token ≡ numeral i) ⊎ ((token ≡ dash) × (i ≡ length vs)) → NamesPlace token (items_by f (take i vs)) (items_by f (drop i vs))
  named_place token i vs within (inl e) = inl (e ∙ ap numeral (sym (count_to i vs within)))
  named_place token i vs within (inr e) = inr (e.0, ap (items_by f) (ap (λ n. drop n vs) e.1 ∙ drop_whole vs))

  pub element_inserted-by : (token : List ℕ) (i : ℕ) (vs ws : List V) (x : V) → (token ≡ numeral i) ⊎ ((token ≡ dash) × (i ≡ length vs)) → i ≤ length vs → ws ≡ take i vs ++ x ∷ drop i vs
      → AddsTo (f x) token (list (items_by f vs)) (list (items_by f ws))
  element_inserted-by token i vs ws x names_it within now =
      to_list (items_by f (take i vs)) (items_by f (drop i vs)) (named_place token i vs within names_it)
      (ap (λ ds. list (items_by f ds)) (sym (take-append-drop i vs)) ∙ ap list (items-append-by f (take i vs) (drop i vs)))
      (ap (λ ds. list (items_by f ds)) now ∙ ap list (items-append-by f (take i vs) (x ∷ drop i vs)))

  pub element_place-by : (token : List ℕ) (i : ℕ) (vs : List V) → (token ≡ numeral i) ⊎ ((token ≡ dash) × (i ≡ length vs)) → i ≤ length vs → ¬ LacksPlace token (Some (list (items_by f vs)))
  element_place-by token i vs (inl e) within lacks = omega (arith, lacks.1 i e, count_of-items-by f vs, within)
  element_place-by token i vs (inr e) within lacks = lacks.0 e.0

  pub no_element_place-by : (token : List ℕ) (vs : List V) → token ≢ dash → ((i : ℕ) → token ≡ numeral i → length vs < i) → LacksPlace token (Some (list (items_by f vs)))
  no_element_place-by token vs other past = (other, λ i e. omega (arith, past i e, count_of-items-by f vs))

-- ---- an operation from what was done in the container

pub at_ends : {X : Type 0} (P : X → X → Type 0) (a b x y : X) → a ≡ x → b ≡ y → P a b → P x y
at_ends P a b x y start end held = subst (λ z. P z y) start (subst (P a) end held)

over_limit : (fits : Bool) (t : Tokens) (v : Document) → (length t + depth v ≤ depth_limit → IsTrue fits) → IsFalse fits → IsTooDeep t v
over_limit fits t v from_fit no_fit =
    let no : length t + depth v ≤ depth_limit → ⊥ = λ h. true≢false (sym (from_fit h) ∙ no_fit) in
    omega (arith, no)

pub has_place : (d x : Document) (t s : Tokens) (last : List ℕ) → t ≡ s ++ last ∷ [] → part d s ≡ Some x → ¬ LacksPlace last (Some x) → ¬ HasNoPlace d t
has_place d x t s last is stood place (u, n, ends, lacks) =
    let same = same_last s u last n (sym is ∙ ends) in
    place (subst (λ o. LacksPlace last o) stood (subst (λ w. LacksPlace last (part d w)) (sym same.0) (subst (λ m. LacksPlace m (part d u)) (sym same.1) lacks)))

pub root_place : (d : Document) (t : Tokens) → t ≡ [] → ¬ HasNoPlace d t
root_place d t root (u, n, ends, lacks) = not_empty u n (sym ends ∙ root)

pub adds_freely : (d : Document) (t : Tokens) (v : Document) → ¬ HasNoPlace d t → length t + depth v ≤ depth_limit → ¬ IsRefused d (add t v)
adds_freely d t v place fits = unrefused d (add t v) (place, ((λ deep. omega (arith, deep, fits)), tt))

pub added : (r : Result (Unit {0}) (Refusal Cause)) (fits : Bool) (t s : Tokens) (last : List ℕ) (v d e x y : Document) → (IsTrue fits → length t + depth v ≤ depth_limit) → (length t + depth v ≤ depth_limit → IsTrue fits)
    → t ≡ s ++ last ∷ [] → part d s ≡ Some x → part e s ≡ Some y → DifferOnlyAt s d e → Inserts r fits last v x y → Answers r d (add t v) e
added (Ok done) fits t s last v d e x y to_fit from_fit is stood stands only inserts =
    (adds_freely d t v (has_place d x t s last is stood inserts.1) (to_fit inserts.0), inr (record { container = s; last = last; is = is; before = x; after = y; stood = stood; stands = stands; changed = inserts.2; only = only }))
added (Err (By NoPlace)) fits t s last v d e x y to_fit from_fit is stood stands only inserts = inl (refl, (s, last, is, subst (λ o. LacksPlace last o) (sym stood) inserts))
added (Err (By TooDeep)) fits t s last v d e x y to_fit from_fit is stood stands only inserts = inr (has_place d x t s last is stood inserts.0, inl (refl, over_limit fits t v from_fit inserts.1))
added (Err (By RemoveRoot)) fits t s last v d e x y to_fit from_fit is stood stands only inserts = absurd inserts
added (Err (By IntoItself)) fits t s last v d e x y to_fit from_fit is stood stands only inserts = absurd inserts
added (Err (By Missing)) fits t s last v d e x y to_fit from_fit is stood stands only inserts = absurd inserts
added (Err (By TestFailed)) fits t s last v d e x y to_fit from_fit is stood stands only inserts = absurd inserts
added (Err OutOfMemory) fits t s last v d e x y to_fit from_fit is stood stands only inserts = tt

pub removed : (t s : Tokens) (last : List ℕ) (v d e x y : Document) → t ≡ s ++ last ∷ [] → part d s ≡ Some x → part e s ≡ Some y → DifferOnlyAt s d e → child last x ≡ Some v → RemovesFrom last x y
    → (t ≢ []) × (part d t ≡ Some v) × ChangesContainer RemovesFrom t d e
removed t s last v d e x y is stood stands only here removes = (
  λ root. not_empty s last (sym is ∙ root),
  ap (part d) is ∙ part-push d s last ∙ ap (option_and_then (child last)) stood ∙ here,
  record { container = s; last = last; is = is; before = x; after = y; stood = stood; stands = stands; changed = removes; only = only },
)

pub nothing_there : (t s : Tokens) (last : List ℕ) (d : Document) → t ≡ s ++ last ∷ [] → option_and_then (child last) (part d s) ≡ None → RefusedBy d (remove t) Missing
nothing_there t s last d is none = inr ((λ root. not_empty s last (sym is ∙ root)), inl (refl, ap (part d) is ∙ part-push d s last ∙ none))

pub some_missing : (d x : Document) (t : Tokens) → part d t ≡ Some x → ¬ IsMissing d t
some_missing d x t stood missing = differ (sym stood ∙ missing)
  where
    differ : Some x ≡ None → ⊥
    differ e = cc

pub replaces_freely : (d x : Document) (t : Tokens) (v : Document) → part d t ≡ Some x → length t + depth v ≤ depth_limit → ¬ IsRefused d (replace t v)
replaces_freely d x t v stood fits = unrefused d (replace t v) (some_missing d x t stood, ((λ deep. omega (arith, deep, fits)), tt))

pub removes_freely : (d x : Document) (t : Tokens) → part d t ≡ Some x → t ≢ [] → ¬ IsRefused d (remove t)
removes_freely d x t stood deeper = unrefused d (remove t) (deeper, (some_missing d x t stood, tt))

-- a test of what is there passes
pub tests_freely : (d x : Document) (t : Tokens) → part d t ≡ Some x → ¬ IsRefused d (test t x)
tests_freely d x t stood = unrefused d (test t x) (some_missing d x t stood, ((λ failed. failed stood), tt))

pub replaced : (r : Result (Unit {0}) (Refusal Cause)) (fits : Bool) (t : Tokens) (v d e x y : Document) → (IsTrue fits → length t + depth v ≤ depth_limit) → (length t + depth v ≤ depth_limit → IsTrue fits)
    → part d t ≡ Some x → part e t ≡ Some y → DifferOnlyAt t d e → MatchResult r (λ _. IsTrue fits × (y ≡ v)) (λ fault. IsFalse fits × (fault ≡ By TooDeep)) → Answers r d (replace t v) e
replaced (Ok done) fits t v d e x y to_fit from_fit stood stands only set = (replaces_freely d x t v stood (to_fit set.0), ((x, stood), stands ∙ ap Some set.1, only))
replaced (Err fault) fits t v d e x y to_fit from_fit stood stands only set =
    subst (λ f. Answers (Err f) d (replace t v) e) (sym set.1) (inr (some_missing d x t stood, inl (refl, over_limit fits t v from_fit set.0)))

-- ---- in a map

-- each value as the document that it means by f
pub value_removed-by : {V : Type 0} (f : V → Document) (r : Option V) (token : List ℕ) (ms ns : Members) → find token ms ≡ option_map f r → ns ≡ without token ms
    → MatchOption r (child token (object ms) ≡ None) (λ x. (child token (object ms) ≡ Some (f x)) × RemovesFrom token (object ms) (object ns))
value_removed-by f None token ms ns found left = child-object token ms ∙ found
value_removed-by f (Some x) token ms ns found left = (child-object token ms ∙ found, from_map ms (f x) found refl (ap object left))

pub value_inserted : (token : List ℕ) (v : Document) (ms ns : Members) → ns ≡ put token v ms → AddsTo v token (object ms) (object ns)
value_inserted token v ms ns now = to_map ms refl (ap object now)

pub in_list : (token : List ℕ) (i n m : ℕ) → n ≡ m → (token ≡ numeral i) ⊎ ((token ≡ dash) × (i ≡ n)) → (token ≡ numeral i) ⊎ ((token ≡ dash) × (i ≡ m))
in_list token i n m same (inl e) = inl e
in_list token i n m same (inr e) = inr (e.0, e.1 ∙ same)

pub set_means : {V : Type 0} (f : V → Document) (r : Result (Unit {0}) (Refusal Cause)) (fits : Bool) (y v : V) → MatchResult r (λ _. IsTrue fits × (y ≡ v)) (λ fault. IsFalse fits × (fault ≡ By TooDeep))
    → MatchResult r (λ _. IsTrue fits × (f y ≡ f v)) (λ fault. IsFalse fits × (fault ≡ By TooDeep))
set_means f (Ok done) fits y v set = (set.0, ap f set.1)
set_means f (Err fault) fits y v set = set
