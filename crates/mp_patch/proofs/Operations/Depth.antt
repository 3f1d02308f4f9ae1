-- No operation takes a document past the depth limit.
use Rattle.std.proofs.Common.{◌≡◌, ◌≢◌, ◌≤◌, ◌+◌, ◌⊎◌, inl, inr, ℕ, suc, max, List, [], ◌∷◌, length, Some, ap, ◌∙◌, arith, length-append}
use Rattle.mp_tree.specs.Document.{Document, item, IsDocument, depth, depth_limit}
use Rattle.mp_tree.proofs.Facts.{members_depth-put, members_depth-without, depth-append}
use Rattle.mp_pointer.specs.Part.{part}
use Rattle.mp_pointer.specs.Spelling.{Tokens}
use Rattle.mp_pointer.proofs.Facts.{part-depth, depth-changed}
use Rattle.mp_patch.specs.Operation.{Operation, add, remove, replace, move, copy, test, ChangesContainer, AddsTo, to_map, to_list, RemovesFrom, from_map, from_list, Adds, Removes, Step}
use Rattle.mp_patch.specs.Refusal.{IsTooDeep}
use Rattle.mp_patch.specs.Run.{IsRefused}
use Rattle.mp_patch.proofs.Operations.Documents.{Removes-document}
use Rattle.mp_patch.proofs.FirstCause.{free_of}

-- ---- a map or a list that was changed

adds-depth : (v : Document) (token : List ℕ) (x y : Document) → AddsTo v token x y → depth y ≤ max (suc (depth v)) (depth x)
adds-depth v token x y (to_map ms is now) = omega (arith, ap depth is, ap depth now, members_depth-put token v ms)
adds-depth v token x y (to_list front back names_it is now) = omega (arith, ap depth is, ap depth now, depth-append front back, depth-append front (item v back))

removes-depth : (token : List ℕ) (x y : Document) → RemovesFrom token x y → depth y ≤ depth x
removes-depth token x y (from_map ms v here is now) = omega (arith, ap depth is, ap depth now, members_depth-without token ms)
removes-depth token x y (from_list front back v names_it is now) = omega (arith, ap depth is, ap depth now, depth-append front back, depth-append front (item v back))

-- ---- operations

fits_if_not_deep : (t : Tokens) (v : Document) → ¬ IsTooDeep t v → length t + depth v ≤ depth_limit
fits_if_not_deep t v shallow = omega (arith, shallow)

pub Adds-depth : (n : ℕ) (t : Tokens) (v d e : Document) → length t + depth v ≤ n → ((t ≡ []) × (e ≡ v)) ⊎ ChangesContainer (AddsTo v) t d e → IsDocument e → depth d ≤ n → depth e ≤ n
Adds-depth n t v d e fits (inl root) good shallow = omega (arith, ap depth root.1)
Adds-depth n t v d e fits (inr c) good shallow =
    let long : length t ≡ length c.container + 1 = ap length c.is ∙ length-append c.container (c.last ∷ []) in
    depth-changed n c.container d e c.after good c.only c.stands shallow (omega (arith, adds-depth v c.last c.before c.after c.changed, part-depth c.container d c.before c.stood, long))

pub Removes-depth : (n : ℕ) (t : Tokens) (d e : Document) → ChangesContainer RemovesFrom t d e → IsDocument e → depth d ≤ n → depth e ≤ n
Removes-depth n t d e c good shallow =
    depth-changed n c.container d e c.after good c.only c.stands shallow (omega (arith, removes-depth c.last c.before c.after c.changed, part-depth c.container d c.before c.stood))

moved-depth : (f t : Tokens) (x d e : Document) → ¬ IsRefused d (move f t) → part d f ≡ Some x → ((f ≡ t) × (e ≡ d)) ⊎ ((f ≢ t) × (left : Document) × Removes f d left × Adds t x left e) → IsDocument d → IsDocument e → depth d ≤ depth_limit
    → depth e ≤ depth_limit
moved-depth f t x d e free stood (inl same) good new shallow = omega (arith, ap depth same.1)
moved-depth f t x d e free stood (inr (other, left, removes, adds)) good new shallow =
    let fits = fits_if_not_deep t x (λ deep. (free_of d (move f t) free).1.1.1.0 (other, (x, stood, deep))) in
    Adds-depth depth_limit t x left e fits adds new (Removes-depth depth_limit f d left removes (Removes-document f d left good removes) shallow)

pub Step-depth : (d : Document) (o : Operation) (e : Document) → ¬ IsRefused d o → Step d o e → IsDocument d → IsDocument e → depth d ≤ depth_limit → depth e ≤ depth_limit
Step-depth d (add t v) e free step good new shallow = Adds-depth depth_limit t v d e (fits_if_not_deep t v (free_of d (add t v) free).1.0) step new shallow
Step-depth d (remove t) e free step good new shallow = Removes-depth depth_limit t d e step new shallow
Step-depth d (replace t v) e free step good new shallow = depth-changed depth_limit t d e v new step.2 step.1 shallow (fits_if_not_deep t v (free_of d (replace t v) free).1.0)
Step-depth d (move f t) e free step good new shallow = moved-depth f t step.0 d e free step.1 step.2 good new shallow
Step-depth d (copy f t) e free step good new shallow =
    Adds-depth depth_limit t step.0 d e (fits_if_not_deep t step.0 (λ deep. (free_of d (copy f t) free).1.1.0 (step.0, step.1, deep))) step.2 new shallow
Step-depth d (test t v) e free step good new shallow = omega (arith, ap depth step.1)
