-- What a single operation within a limit answers. Only private clauses cite it.
use Rattle.std.specs.Prelude.{◌≡◌, ◌≢◌, ◌≤◌, ◌<◌, ◌⊎◌, ◌+◌, ◌*◌, ◌↔◌, ℕ, length, Bool, IsTrue, Option, None, Some, Result, Ok, Err, ⊤}
use Rattle.mp_tree.specs.Document.{Document, depth, depth_limit}
use Rattle.mp_tree.specs.Weight.{weight}
use Rattle.mp_pointer.specs.Part.{part}
use Rattle.mp_pointer.specs.Spelling.{Tokens, IsProperPrefix}
use Rattle.mp_patch.specs.Operation.{Operation, Step, Removes, move}
use Rattle.mp_patch.specs.Refusal.{RefusedBy}
use Rattle.mp_patch.specs.Run.{IsRefused}
use Rattle.mp_patch.specs.Work.{IsWork, work_factor, no_limit}
use Rattle.mp_patch.specs.declared.fault.ApplyWithinFault.{ApplyWithinFault}
use Rattle.mp_patch.specs.declared.fault.ApplyWithinFault.TheVariants as fault
use Rattle.mp_patch.specs.declared.fault.Cause.{Cause}
use Rattle.mp_patch.specs.declared.fault.Refusal.{Refusal}
use Rattle.mp_patch.specs.declared.fault.Refusal.TheVariants.{By, OutOfMemory}
use Rattle.mp_patch.specs.declared.scale.Scale.{Scale}

-- if the operation has a work, it is n
abbrev pub CountsWork : ℕ → Document → Operation → Type 0
CountsWork n d o = (w : ℕ) → IsWork d o w → n ≡ w

-- the scale of a document d once so much work was done; there is none if the limit bounds nothing
abbrev pub IsScale : ℕ → ℕ → Option Scale → Document → Type 0
IsScale limit done None d = limit ≡ no_limit
IsScale limit done (Some scale) d =
    (limit ≢ no_limit) × (scale.limit ≡ limit) × (scale.weight ≡ weight d) × (scale.work + done ≡ work_factor * limit)

-- the operation is not refused, and its result weighs more
abbrev pub IsTooHeavy : ℕ → Document → Operation → Type 0
IsTooHeavy limit d o = ¬ IsRefused d o × (m : Document) × Step d o m × (limit < weight m)

-- before an operation is done: if it is not refused, its result weighs n, which is at most the limit; None if it is not
-- refused, and its result weighs more
abbrev pub Judges : ℕ → Option ℕ → Document → Operation → Type 0
Judges limit None d o = IsTooHeavy limit d o
Judges limit (Some n) d o = (e : Document) → ¬ IsRefused d o → Step d o e → (n ≡ weight e) × (n ≤ limit)

-- the scale once the operation is done: what its result weighs, and what work is left
pub record ScaleFollows (scale next : Scale) (d : Document) (o : Operation) (e : Document) : Type 0 where
  pub weighs : next.weight ≡ weight e
  pub within : next.weight ≤ scale.limit
  pub same_limit : next.limit ≡ scale.limit
  pub work : ℕ
  pub is_work : IsWork d o work
  pub leaves : next.work + work ≡ scale.work

-- the operation is not refused, and its result weighs more, or its work is more than what is left
abbrev pub IsTooMuch : Scale → Document → Operation → Type 0
IsTooMuch scale d o =
    ¬ IsRefused d o × (m : Document) × Step d o m × (w : ℕ) × IsWork d o w
    × ((scale.limit < weight m) ⊎ (scale.work < w))

-- the operation was taken from d to e, and the scale follows, or it is too much, or it is refused
abbrev pub AnswersWithin : Scale → Result (Option Scale) (Refusal Cause) → Document → Operation → Document → Type 0
AnswersWithin scale (Ok (Some next)) d o e = ¬ IsRefused d o × Step d o e × ScaleFollows scale next d o e
AnswersWithin scale (Ok None) d o e = IsTooMuch scale d o
AnswersWithin scale (Err (By cause)) d o e = RefusedBy d o cause
AnswersWithin scale (Err OutOfMemory) d o e = ⊤

-- the same with no scale, if there is no limit
abbrev pub Follows : Option Scale → Option Scale → Document → Operation → Document → Type 0
Follows None None d o e = ⊤
Follows (Some scale) (Some next) d o e = ScaleFollows scale next d o e
Follows None (Some next) d o e = ⊥
Follows (Some scale) None d o e = ⊥

-- why the operation of that number ends the patch
abbrev pub EndsBy : Option Scale → ℕ → ApplyWithinFault → Document → Operation → Type 0
EndsBy scale number (fault.Refused k cause) d o = (k ≡ number) × RefusedBy d o cause
EndsBy None number (fault.TooLarge k) d o = ⊥
EndsBy (Some scale) number (fault.TooLarge k) d o = (k ≡ number) × IsTooMuch scale d o
EndsBy scale number fault.OutOfMemory d o = ⊤

-- whether a value fits below so many tokens
abbrev pub Fits : Bool → Tokens → Document → Type 0
Fits fits t v = IsTrue fits ↔ (length t + depth v ≤ depth_limit)

-- the part x was taken out for a move, which left e, and whether it fits at t; or the move changes nothing, or is refused
abbrev pub TakesToMove : {T : Type 0} → (T → Document) → Result (Option (T × Bool)) (Refusal Cause)
    → Document → Tokens → Tokens → Document → Type 0
TakesToMove f (Ok (Some taken)) d s t e =
    ¬ IsProperPrefix s t × (s ≢ t) × (part d s ≡ Some (f taken.0)) × Removes s d e × Fits taken.1 t (f taken.0)
TakesToMove f (Ok None) d s t e = (s ≡ t) × ¬ IsRefused d (move s t) × Step d (move s t) e × (e ≡ d)
TakesToMove f (Err (By cause)) d s t e = RefusedBy d (move s t) cause
TakesToMove f (Err OutOfMemory) d s t e = ⊤
