-- An operation is not refused if none of its causes holds: if what it names is there, and what it adds fits.
use Rattle.std.proofs.Common.{◌≡◌, ◌≤◌, ◌+◌, length, Some, subst, arith}
use Rattle.mp_tree.specs.Document.{Document, depth, depth_limit}
use Rattle.mp_pointer.specs.Part.{part}
use Rattle.mp_pointer.specs.Spelling.{Tokens, IsProperPrefix}
use Rattle.mp_tree.proofs.Facts.{same_some}
use Rattle.mp_patch.specs.Laws.{OperationsAreTaken}
use Rattle.mp_patch.specs.Operation.{move, copy}
use Rattle.mp_patch.specs.Refusal.{HasNoPlace, LeavesNoPlace, PartIsTooDeep}
use Rattle.mp_patch.specs.Run.{IsRefused}
use Rattle.mp_patch.proofs.FirstCause.{unrefused}
use Rattle.mp_patch.proofs.Operations.SingleSteps.{adds_freely, removes_freely, replaces_freely, tests_freely, some_missing}

fits_there : (d x : Document) (f t : Tokens) → part d f ≡ Some x → length t + depth x ≤ depth_limit → ¬ PartIsTooDeep d f t
fits_there d x f t stood fits (y, also, deep) = let fits_too = subst (λ z. length t + depth z ≤ depth_limit) (same_some (part d f) x y stood also) fits in omega (arith, fits_too, deep)

moves_freely : (d x : Document) (f t : Tokens) → part d f ≡ Some x → ¬ IsProperPrefix f t → ¬ LeavesNoPlace d f t → length t + depth x ≤ depth_limit → ¬ IsRefused d (move f t)
moves_freely d x f t stood apart place fits = unrefused d (move f t) (apart, (some_missing d x f stood, (place, ((λ deep. fits_there d x f t stood fits deep.1), tt))))

copies_freely : (d x : Document) (f t : Tokens) → part d f ≡ Some x → ¬ HasNoPlace d t → length t + depth x ≤ depth_limit → ¬ IsRefused d (copy f t)
copies_freely d x f t stood place fits = unrefused d (copy f t) (some_missing d x f stood, (place, (fits_there d x f t stood fits, tt)))

pub operations_are_taken : OperationsAreTaken
operations_are_taken d = record {
  adds = λ t v place fits. adds_freely d t v place fits;
  removes = λ t x stood deeper. removes_freely d x t stood deeper;
  replaces = λ t x v stood fits. replaces_freely d x t v stood fits;
  moves = λ f t x stood apart place fits. moves_freely d x f t stood apart place fits;
  copies = λ f t x stood place fits. copies_freely d x f t stood place fits;
  tests = λ t x stood. tests_freely d x t stood;
}
