-- A JSON Patch is applied as a whole (RFC 6902 sections 3 and 5): its operations in order, each to what the one before
-- left, and if one is refused there is no result.
use Rattle.std.specs.Prelude.{◌≡◌, ℕ, List, [], ◌∷◌, take, slice_get, Some, ⊤}
use Rattle.mp_tree.specs.Document.{Document}
use Rattle.mp_patch.specs.Operation.{Operation, Step}
use Rattle.mp_patch.specs.Refusal.{RefusedBy}
use Rattle.mp_patch.specs.declared.fault.ApplyFault.{ApplyFault}
use Rattle.mp_patch.specs.declared.fault.ApplyFault.TheVariants.{Refused, OutOfMemory}
use Rattle.mp_patch.specs.declared.fault.Cause.{Cause}

abbrev pub IsRefused : Document → Operation → Type 0
IsRefused d o = (cause : Cause) × RefusedBy d o cause

-- the operations lead from d to e, and none is refused if it is taken
abbrev pub Runs : Document → List Operation → Document → Type 0
Runs d [] e = e ≡ d
Runs d (o ∷ rest) e = ¬ IsRefused d o × (m : Document) × Step d o m × Runs m rest e

-- the first k operations lead to a document at which operation k is refused, with that cause
abbrev pub RefusedAt : Document → List Operation → ℕ → Cause → Type 0
RefusedAt d operations k cause =
    (m : Document) × Runs d (take k operations) m
    × (o : Operation) × (slice_get operations k ≡ Some o) × RefusedBy m o cause

-- why there is no result; out of memory says nothing of the patch
abbrev pub IsApplyFault : ApplyFault → Document → List Operation → Type 0
IsApplyFault (Refused number cause) d operations = RefusedAt d operations number cause
IsApplyFault OutOfMemory d operations = ⊤
