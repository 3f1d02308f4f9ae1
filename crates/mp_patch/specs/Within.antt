-- Applying a patch within a limit on the weight of each result, and on the work of all operations together.
use Rattle.std.specs.Prelude.{◌≡◌, ◌≢◌, ◌≤◌, ◌<◌, ◌⊎◌, ◌+◌, ℕ, List, [], ◌∷◌, take, slice_get, Some, ⊤}
use Rattle.mp_tree.specs.Document.{Document}
use Rattle.mp_tree.specs.Weight.{weight}
use Rattle.mp_patch.specs.Operation.{Operation, Step}
use Rattle.mp_patch.specs.Refusal.{RefusedBy}
use Rattle.mp_patch.specs.Run.{IsRefused}
use Rattle.mp_patch.specs.Work.{IsWork, AllowsWork, ExceedsWork, no_limit}
use Rattle.mp_patch.specs.declared.fault.ApplyFault.{ApplyFault}
use Rattle.mp_patch.specs.declared.fault.ApplyFault.TheVariants as apply
use Rattle.mp_patch.specs.declared.fault.ApplyWithinFault.{ApplyWithinFault}
use Rattle.mp_patch.specs.declared.fault.ApplyWithinFault.TheVariants.{Refused, TooLarge, OutOfMemory}

-- what a limit says of the weight of a result: nothing, if it is the one that bounds nothing
abbrev pub AllowsWeight : ℕ → Document → Type 0
AllowsWeight limit m = limit ≢ no_limit → weight m ≤ limit

abbrev pub ExceedsWeight : ℕ → Document → Type 0
ExceedsWeight limit m = (limit ≢ no_limit) × (limit < weight m)

-- the operations lead from d to e, none is refused if it is taken, the result of each is as `Good` says, and their work is
-- together w
abbrev pub RunsWorking : (Document → Type 0) → Document → List Operation → Document → ℕ → Type 0
RunsWorking Good d [] e w = (e ≡ d) × (w ≡ 0)
RunsWorking Good d (o ∷ rest) e w =
    ¬ IsRefused d o × (m : Document) × Step d o m × Good m
    × (first later : ℕ) × IsWork d o first × (w ≡ first + later) × RunsWorking Good m rest e later

-- the same if the limit allows the weight of each result, and the work
abbrev pub RunsWithinBy : ℕ → Document → List Operation → Document → ℕ → Type 0
RunsWithinBy limit d operations e w = RunsWorking (AllowsWeight limit) d operations e w × AllowsWork limit w

abbrev pub RunsWithin : ℕ → Document → List Operation → Document → Type 0
RunsWithin limit d operations e = (w : ℕ) × RunsWithinBy limit d operations e w

-- the operation is not refused, and its result weighs more, or its work is too much after the work that was done
abbrev pub IsTooLarge : ℕ → ℕ → Document → Operation → Type 0
IsTooLarge limit done d o =
    ¬ IsRefused d o × (m : Document) × Step d o m × (w : ℕ) × IsWork d o w
    × (ExceedsWeight limit m ⊎ ExceedsWork limit (done + w))

-- the first k operations lead, within the limit, to a document m, and operation k is so of their work and of m
abbrev pub StopsAt : (ℕ → Document → Operation → Type 0) → ℕ → Document → List Operation → ℕ → Type 0
StopsAt Stops limit d operations k =
    (m : Document) × (done : ℕ) × RunsWithinBy limit d (take k operations) m done
    × (o : Operation) × (slice_get operations k ≡ Some o) × Stops done m o

-- why there is no result; out of memory says nothing of the patch
abbrev pub IsApplyWithinFault : ℕ → ApplyWithinFault → Document → List Operation → Type 0
IsApplyWithinFault limit (Refused number cause) d operations =
    StopsAt (λ done m o. RefusedBy m o cause) limit d operations number
IsApplyWithinFault limit (TooLarge number) d operations = StopsAt (IsTooLarge limit) limit d operations number
IsApplyWithinFault limit OutOfMemory d operations = ⊤

-- an error of a call that has no limit, as a call within a limit has it
abbrev pub within_fault_of : ApplyFault → ApplyWithinFault
within_fault_of (apply.Refused number cause) = Refused number cause
within_fault_of apply.OutOfMemory = OutOfMemory
