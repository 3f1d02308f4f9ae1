-- A move is a removal and then an addition to what is left; a copy is an addition of what is there.
use Rattle.std.proofs.Common.{◌≡◌, ◌≢◌, ◌<◌, ◌+◌, ◌-◌, inl, inr, ℕ, Option, None, Some, MatchOption, Result, Ok, Err, refl, subst}
use Rattle.mp_tree.specs.Document.{Document, IsDocument}
use Rattle.mp_pointer.specs.Part.{part}
use Rattle.mp_pointer.specs.Spelling.{Tokens, IsProperPrefix}
use Rattle.mp_patch.specs.Operation.{Operation, add, move, copy, remove, Removes}
use Rattle.mp_patch.specs.Refusal.{HasNoPlace, IsTooDeep, LeavesNoPlace, PartIsTooDeep, RefusedBy, causes}
use Rattle.mp_patch.specs.Private.Steps.{Answers}
use Rattle.mp_patch.specs.Private.Within.{AnswersWithin, IsTooMuch, Judges, TakesToMove}
use Rattle.mp_patch.specs.Work.{shifted_at}
use Rattle.mp_patch.specs.declared.fault.Cause.{Cause}
use Rattle.mp_patch.specs.declared.fault.Refusal.{Refusal}
use Rattle.mp_patch.specs.declared.fault.Refusal.TheVariants.{By, OutOfMemory}
use Rattle.mp_patch.specs.declared.scale.Scale.{Scale}
use Rattle.mp_patch.proofs.Operations.Documents.{Removes-once}
use Rattle.mp_patch.proofs.FirstCause.{NoneHolds, unrefused, free_of}
use Rattle.mp_patch.proofs.Operations.SingleSteps.{some_missing}
use Rattle.mp_patch.proofs.Operations.Works.{counts_move, followed, too_heavy}
use Rattle.mp_pointer.proofs.Facts.{root_is_prefix}
use Rattle.mp_tree.proofs.Facts.{same_some}

pub stays : (d x : Document) (f t : Tokens) → ¬ IsProperPrefix f t → f ≡ t → part d f ≡ Some x → Answers (Ok tt) d (move f t) d
stays d x f t apart same stood = (
  unrefused d (move f t) (apart, (some_missing d x f stood, ((λ h. h.0 same), ((λ h. h.0 same), tt)))),
  (x, stood, inl (same, refl)),
)

fits_as_part : (f t : Tokens) (x d : Document) → part d f ≡ Some x → ¬ IsTooDeep t x → ¬ PartIsTooDeep d f t
fits_as_part f t x d stood fits (y, there, deep) = fits (subst (IsTooDeep t) (same_some (part d f) y x there stood) deep)

module _ (f t : Tokens) (x d left : Document) (good : IsDocument d) (apart : ¬ IsProperPrefix f t) (other : f ≢ t) (stood : part d f ≡ Some x) (removes : Removes f d left) where
  placed : ¬ HasNoPlace left t → ¬ LeavesNoPlace d f t
  placed place h = place (subst (λ m. HasNoPlace m t) (Removes-once f d h.1 left good h.2 removes) h.3)

  moves_freely : NoneHolds (causes left (add t x)) → NoneHolds (causes d (move f t))
  moves_freely none = (apart, (some_missing d x f stood, (placed none.0, ((λ h. fits_as_part f t x d stood none.1.0 h.1), tt))))

  not_added : (cause : Cause) → RefusedBy left (add t x) cause → RefusedBy d (move f t) cause
  not_added cause (inl (is, lacks)) = inr (apart, inr (some_missing d x f stood, inl (is, (other, left, removes, lacks))))
  not_added cause (inr (place, inl (is, deep))) = inr (apart, inr (some_missing d x f stood, inr (placed place, inl (is, (other, (x, stood, deep))))))
  not_added cause (inr (place, inr h)) = absurd h.1

  pub moved : (r : Result (Unit {0}) (Refusal Cause)) (e : Document) → Answers r left (add t x) e → Answers r d (move f t) e
  moved (Ok done) e answers = (unrefused d (move f t) (moves_freely (free_of left (add t x) answers.0)), (x, stood, inr (other, left, removes, answers.1)))
  moved (Err (By cause)) e refused = not_added cause refused
  moved (Err OutOfMemory) e answers = tt

-- if nothing was removed
pub not_moved : (fault : Refusal Cause) (f t : Tokens) (d e e' : Document) → ¬ IsProperPrefix f t → f ≢ t → Answers (Err fault) d (remove f) e → Answers (Err fault) d (move f t) e'
not_moved (By cause) f t d e e' apart other (inl (is, root)) = absurd (apart (root_is_prefix f t root other))
not_moved (By cause) f t d e e' apart other (inr (deeper, inl (is, missing))) = inr (apart, inl (is, missing))
not_moved (By cause) f t d e e' apart other (inr (deeper, inr h)) = absurd h.1
not_moved OutOfMemory f t d e e' apart other refused = tt

module _ (f t : Tokens) (x d : Document) (stood : part d f ≡ Some x) where
  pub copied : (r : Result (Unit {0}) (Refusal Cause)) (e : Document) → Answers r d (add t x) e → Answers r d (copy f t) e
  copied (Ok done) e answers =
      let none = free_of d (add t x) answers.0 in
      (unrefused d (copy f t) (some_missing d x f stood, (none.0, (fits_as_part f t x d stood none.1.0, tt))), (x, stood, answers.1))
  copied (Err (By cause)) e (inl (is, lacks)) = inr (some_missing d x f stood, inl (is, lacks))
  copied (Err (By cause)) e (inr (place, inl (is, deep))) = inr (some_missing d x f stood, inr (place, inl (is, (x, stood, deep))))
  copied (Err (By cause)) e (inr (place, inr h)) = absurd h.1
  copied (Err OutOfMemory) e answers = tt

-- ---- a move in two halves

pub not_taken : {T : Type 0} (m : T → Document) (fault : Refusal Cause) (f t : Tokens) (d e : Document) → Answers (Err fault) d (move f t) e → TakesToMove m (Err fault) d f t e
not_taken m (By cause) f t d e refused = refused
not_taken m OutOfMemory f t d e refused = tt

pub refused_within : (scale : Scale) (fault : Refusal Cause) (d : Document) (o : Operation) (e e' : Document) → Answers (Err fault) d o e → AnswersWithin scale (Err fault) d o e'
refused_within scale (By cause) d o e e' refused = refused
refused_within scale OutOfMemory d o e e' refused = tt

module _ (scale : Scale) (f t : Tokens) (x d left : Document) (good : IsDocument d) (apart : ¬ IsProperPrefix f t) (other : f ≢ t) (stood : part d f ≡ Some x) (removes : Removes f d left) where
  pub moved_too_large : Judges scale.limit None left (add t x) → IsTooMuch scale d (move f t)
  moved_too_large j =
      let done = moved f t x d left good apart other stood removes (Ok tt) j.1 (j.0, j.2) in
      too_heavy scale d (move f t) (done.0, j.1, done.1, j.3)

  pub moved_within : (n removal arrival : ℕ) (e : Document) → Judges scale.limit (Some n) left (add t x) → removal ≡ shifted_at f d - 1 → arrival ≡ shifted_at t left → Answers (Ok tt) left (add t x) e
      → (r : Option Scale) → MatchOption r (scale.work < removal + arrival) (λ next. (next.weight ≡ n) × (next.limit ≡ scale.limit) × (next.work + (removal + arrival) ≡ scale.work)) → AnswersWithin scale (Ok r) d (move f t) e
  moved_within n removal arrival e j before after answers =
      let done = moved f t x d left good apart other stood removes (Ok tt) e answers in
      let weighs = j e answers.0 answers.1 in
      followed scale n (removal + arrival) d e (move f t) done.0 done.1 weighs.0 weighs.1 (counts_move removal arrival f t d left good other removes before after)
