-- The list of operations that an iterator gives, taken apart while they are done.
use Rattle.std.proofs.Common.{◌≡◌, ◌+◌, ℕ, List, [], ◌∷◌, ◌++◌, length, map, take, Option, None, Some, refl, sym, ap, ap₂, ◌∙◌, subst, append_assoc, append-nil, length-append}
use Rattle.std.proofs.lemmas.Iterator.{YieldsList}
use Rattle.std.specs.Iterator.{AlwaysYields}
use Rattle.std.specs.List.{slice_get}
use Rattle.mp_tree.specs.Document.{Document}
use Rattle.mp_patch.specs.Operation.{Operation}

mapped : {S A B C : Type 0} (steps : S → Option A → S → Type 0) (v : A → B) (h : B → C) (ys : List B) (s : S) → AlwaysYields steps v s ys → AlwaysYields steps (λ x. h (v x)) s (map h ys)
mapped steps v h [] s none = none
mapped steps v h (y ∷ ys) s some = (some.0, λ x t step. let next = some.1 x t step in (ap h next.0, mapped steps v h ys t next.1))

-- items that v takes to ys are items that h after v takes to what h gives of these
pub AlwaysYields-map : {S A B C : Type 0} {steps : S → Option A → S → Type 0} {v : A → B} {s : S} {ys : List B} (h : B → C) → YieldsList steps v s ys → AlwaysYields steps (λ x. h (v x)) s (map h ys)
AlwaysYields-map {steps = steps} {v = v} {s = s} {ys = ys} h given = mapped steps v h ys s given.runs

take_front : (xs ys : List Operation) → take (length xs) (xs ++ ys) ≡ xs
take_front [] ys = refl
take_front (x ∷ xs) ys = ap (λ zs. x ∷ zs) (take_front xs ys)

get_next : (xs ys : List Operation) (y : Operation) → slice_get (xs ++ y ∷ ys) (length xs) ≡ Some y
get_next [] ys y = refl
get_next (x ∷ xs) ys y = get_next xs ys y

module _ {S O : Type 0} (steps : S → Option O → S → Type 0) (v : O → Operation) where
  -- the iterator at s has left what follows so many operations, which led to the document e as R says
  pub record HasRunTo (R : List Operation → Document → Type 0) (operations : List Operation) (s : S) (done : ℕ) (e : Document) : Type 0 where
    pub passed : List Operation
    pub left : List Operation
    pub all : operations ≡ passed ++ left
    pub numbered : done ≡ length passed
    pub gives : AlwaysYields steps v s left
    pub run : R passed e

  -- what the next item is, and what is left then
  abbrev IsNext : List Operation → O → S → Type 0
  IsNext left op t = (more : List Operation) × (left ≡ v op ∷ more) × AlwaysYields steps v t more

  next : (left : List Operation) (s t : S) (op : O) → AlwaysYields steps v s left → steps s (Some op) t → IsNext left op t
  next [] s t op none step = absurd (none op t step)
  next (o ∷ left) s t op some step = let is = some.1 op t step in (left, ap (λ p. p ∷ left) (sym is.0), is.1)

  over : (left : List Operation) (s t : S) → AlwaysYields steps v s left → steps s None t → left ≡ []
  over [] s t none step = refl
  over (o ∷ left) s t some step = absurd (some.0 t step)

  module _ (R : List Operation → Document → Type 0) (operations : List Operation) (s t : S) (done : ℕ) (m : Document) (r : HasRunTo R operations s done m) where
    pub run_end : steps s None t → R operations m
    run_end step = subst (λ os. R os m) (sym (r.all ∙ ap (λ os. r.passed ++ os) (over r.left s t r.gives step) ∙ append-nil r.passed)) r.run

    -- those that were taken are the first
    pub run_before : R (take done operations) m
    run_before = subst (λ os. R os m) (sym (ap₂ take r.numbered r.all ∙ take_front r.passed r.left)) r.run

    module _ (op : O) (step : steps s (Some op) t) where
      abbrev is : IsNext r.left op t
      is = next r.left s t op r.gives step

      split : operations ≡ r.passed ++ v op ∷ is.0
      split = r.all ∙ ap (λ os. r.passed ++ os) is.1

      -- the relation after the next operation may be another one
      pub run_further : (T : List Operation → Document → Type 0) (e : Document) → ((os : List Operation) → R os m → T (os ++ v op ∷ []) e) → HasRunTo T operations t (done + 1) e
      run_further T e longer = record {
        passed = r.passed ++ v op ∷ [];
        left = is.0;
        all = split ∙ sym (append_assoc r.passed (v op ∷ []) is.0);
        numbered = ap (λ n. n + 1) r.numbered ∙ sym (length-append r.passed (v op ∷ []));
        gives = is.2;
        run = longer r.passed r.run;
      }

      -- and the next one is at their number
      pub next_there : slice_get operations done ≡ Some (v op)
      next_there = ap₂ slice_get split r.numbered ∙ get_next r.passed is.0 (v op)
