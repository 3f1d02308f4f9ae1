-- A bound on the depth of a document holds of what an operation makes of it.
use Rattle.std.proofs.Common.{◌≡◌, ◌<◌, ◌≤◌, ◌+◌, ℕ, length, Bool, Option, None, Some, Result, Ok, Err, IsTrue, OnOk, subst, arith}
use Rattle.mp_tree.specs.Document.{Document, IsDocument, depth, depth_limit}
use Rattle.mp_pointer.specs.Part.{part}
use Rattle.mp_pointer.specs.Spelling.{Tokens}
use Rattle.mp_pointer.proofs.Facts.{part-depth, depth-changed}
use Rattle.mp_patch.specs.Operation.{add, replace, Adds, Removes, Replaces}
use Rattle.mp_patch.specs.Private.Bounds.{Bounds}
use Rattle.mp_patch.specs.Private.Steps.{Answers}
use Rattle.mp_patch.specs.declared.fault.Cause.{Cause}
use Rattle.mp_patch.specs.declared.fault.Refusal.{Refusal}
use Rattle.mp_patch.proofs.Operations.Depth.{Adds-depth, Removes-depth}
use Rattle.mp_patch.proofs.FirstCause.{free_of}

pub part-bounds : (most : Option ℕ) (t : Tokens) (d x : Document) → part d t ≡ Some x → Bounds most 0 d → Bounds most (length t) x
part-bounds None t d x stood bounds = tt
part-bounds (Some n) t d x stood bounds = omega (arith, part-depth t d x stood, bounds)

pub Removes-bounds : (most : Option ℕ) (t : Tokens) (d e : Document) → Removes t d e → IsDocument e → Bounds most 0 d → Bounds most 0 e
Removes-bounds None t d e removes good bounds = tt
Removes-bounds (Some n) t d e removes good bounds = omega (arith, Removes-depth n t d e removes good (omega (arith, bounds)))

Adds-bounds : (most : Option ℕ) (t : Tokens) (v d e : Document) → Bounds most (length t) v → Adds t v d e → IsDocument e → Bounds most 0 d → Bounds most 0 e
Adds-bounds None t v d e fits adds good bounds = tt
Adds-bounds (Some n) t v d e fits adds good bounds = omega (arith, Adds-depth n t v d e fits adds good (omega (arith, bounds)))

Replaces-bounds : (most : Option ℕ) (t : Tokens) (v d e : Document) → Bounds most (length t) v → Replaces t v d e → IsDocument e → Bounds most 0 d → Bounds most 0 e
Replaces-bounds None t v d e fits replaces good bounds = tt
Replaces-bounds (Some n) t v d e fits replaces good bounds = omega (arith, depth-changed n t d e v good replaces.2 replaces.1 (omega (arith, bounds)) fits)

-- a value that was admitted below so many tokens, and then added or put in the place of what was there
module _ (fits : Bool) (most : Option ℕ) (n : ℕ) (t : Tokens) (v d e : Document) (long : n ≡ length t) (from_fit : n + depth v ≤ depth_limit → IsTrue fits) (admitted : IsTrue fits → Bounds most n v) (good : IsDocument e) (bounds : Bounds most 0 d) where
  below : ¬ (depth_limit < length t + depth v) → Bounds most (length t) v
  below shallow = subst (λ k. Bounds most k v) long (admitted (from_fit (omega (arith, shallow, long))))

  pub added-bounds : (r : Result (Unit {0}) (Refusal Cause)) → Answers r d (add t v) e → OnOk r (Bounds most 0 e)
  added-bounds (Ok done) answers = Adds-bounds most t v d e (below (free_of d (add t v) answers.0).1.0) answers.1 good bounds
  added-bounds (Err fault) answers = tt

  pub replaced-bounds : (r : Result (Unit {0}) (Refusal Cause)) → Answers r d (replace t v) e → OnOk r (Bounds most 0 e)
  replaced-bounds (Ok done) answers = Replaces-bounds most t v d e (below (free_of d (replace t v) answers.0).1.0) answers.1 good bounds
  replaced-bounds (Err fault) answers = tt
