-- What a single operation answers. Only private clauses cite it.
use Rattle.std.specs.Prelude.{◌≡◌, ℕ, List, Bool, IsTrue, IsFalse, Option, None, Some, MatchOption, Result, Ok, Err, ⊤}
use Rattle.mp_tree.specs.Document.{Document}
use Rattle.mp_pointer.specs.Part.{child}
use Rattle.mp_patch.specs.Operation.{Operation, Step, AddsTo, RemovesFrom}
use Rattle.mp_patch.specs.Refusal.{RefusedBy, LacksPlace}
use Rattle.mp_patch.specs.Run.{IsRefused}
use Rattle.mp_patch.specs.declared.fault.Cause.{Cause}
use Rattle.mp_patch.specs.declared.fault.Cause.TheVariants.{NoPlace, TooDeep}
use Rattle.mp_patch.specs.declared.fault.Refusal.{Refusal}
use Rattle.mp_patch.specs.declared.fault.Refusal.TheVariants.{By, OutOfMemory}

-- the operation was taken from d to e, or is refused; out of memory says nothing
abbrev pub Answers : Result (Unit {0}) (Refusal Cause) → Document → Operation → Document → Type 0
Answers (Ok done) d o e = ¬ IsRefused d o × Step d o e
Answers (Err (By cause)) d o e = RefusedBy d o cause
Answers (Err OutOfMemory) d o e = ⊤

-- v was added to the container before, or it lacks the place, or v does not fit
abbrev pub Inserts : Result (Unit {0}) (Refusal Cause) → Bool → List ℕ → Document → Document → Document → Type 0
Inserts (Ok done) fits token v before after =
    IsTrue fits × (¬ LacksPlace token (Some before)) × AddsTo v token before after
Inserts (Err (By NoPlace)) fits token v before after = LacksPlace token (Some before)
Inserts (Err (By TooDeep)) fits token v before after = (¬ LacksPlace token (Some before)) × IsFalse fits
Inserts (Err (By cause)) fits token v before after = ⊥
Inserts (Err OutOfMemory) fits token v before after = ⊤

-- the part that the token named, which means a document by f, was taken out of the container, or there was none
pub record TakesOutBy {V : Type 0} (f : V → Document) (taken : Option V) (token : List ℕ) (before after : Document) : Type 0 where
  pub says :
      MatchOption taken (child token before ≡ None)
      (λ x. (child token before ≡ Some (f x)) × RemovesFrom token before after)
